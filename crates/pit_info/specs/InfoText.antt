-- What `info` prints of a pit.
use Rattle.std.specs.Prelude.{ℕ, pos, Bool, if◌then◌else◌, List, [], ◌∷◌, ◌++◌, flat_map, Option, Some, None, codes}
use Rattle.pit_model.specs.Pit.{Pit}
use Rattle.pit_step.specs.LineTexts.{field_text, micro_text, period_text}
use Rattle.pit_info.specs.Figures.{profit_count, coef_count, lower_count, upper_count, pair_count, root_count, highest_of, place_count, benches_if, unlimited_of}

-- a word with a space behind it, and a number
abbrev pub count_text : List ℕ → ℕ → List ℕ
count_text word n = word ++ field_text n 10

-- how large it is, and its discount rate
unfoldable pub size_text : Pit → List ℕ
size_text pit =
    count_text (codes "blocks ") pit.blocks
    ++ (count_text (codes "periods ") pit.periods ++ (count_text (codes "resources ") pit.resources ++ (codes "rate " ++ micro_text (pos pit.rate) 10)))

-- what isn't 0, and what is limited
unfoldable pub amounts_text : Pit → List ℕ
amounts_text pit =
    count_text (codes "profits ") (profit_count pit)
    ++ (count_text (codes "coefficients ") (coef_count pit)
    ++ (count_text (codes "lower ") (lower_count pit) ++ count_text (codes "upper ") (upper_count pit)))

-- a block is printed as a period is: `-` where there is none
unfoldable pub order_text : Pit → List ℕ
order_text pit =
    count_text (codes "pairs ") (pair_count pit)
    ++ (count_text (codes "roots ") (root_count pit) ++ (codes "highest " ++ period_text (highest_of pit) (10 ∷ [])))

-- where places were read, with their number of benches
abbrev pub places_text : Pit → Option ℕ → List ℕ
places_text pit None = []
places_text pit (Some benches) = count_text (codes "places ") (place_count pit) ++ count_text (codes "benches ") benches

abbrev pub unlimited_line : ℕ → List ℕ
unlimited_line r = count_text (codes "unlimited ") r

abbrev pub unless_text : Bool → ℕ → List ℕ
unless_text is_limited r = if is_limited then [] else unlimited_line r

unfoldable pub unlimited_text : List ℕ → List ℕ
unlimited_text resources = flat_map unlimited_line resources

-- a resource and a period
abbrev pub unmeetable_text : Option (ℕ × ℕ) → List ℕ
unmeetable_text None = []
unmeetable_text (Some found) = codes "unmeetable " ++ (field_text found.0 32 ++ field_text found.1 10)

-- with its places or without, its first limit that can't be met, and the lines of the unknown keys
abbrev pub info_text : Bool → Pit → Option (ℕ × ℕ) → List ℕ → List ℕ
info_text with_places pit unmeetable unknown =
    size_text pit
    ++ (amounts_text pit
    ++ (order_text pit
    ++ (places_text pit (benches_if with_places pit) ++ (unlimited_text (unlimited_of pit) ++ (unmeetable_text unmeetable ++ unknown)))))
