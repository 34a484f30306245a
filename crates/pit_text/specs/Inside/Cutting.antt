-- What is known of a text on the way to its cut.
use Rattle.std.specs.Prelude.{ℕ, ◌==◌, ◌<◌, false, List, [], ◌∷◌, slice_index, ◌≡◌}
use Rattle.pit_text.specs.Cutting.{is_gap}

-- none of the first n bytes is a line feed
abbrev pub HasNoFeedBefore : List ℕ → ℕ → Type 0
HasNoFeedBefore text n = (k : ℕ) → k < n → slice_index text k == 10 ≡ false

-- a field begins here
abbrev pub FieldBegins : List ℕ → Type 0
FieldBegins [] = ⊥
FieldBegins (b ∷ bs) = is_gap b ≡ false
