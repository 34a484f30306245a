-- What `check --all` prints, and the status that goes with it.
use Rattle.std.specs.Prelude.{ℕ, ◌-◌, ◌==◌, ◌&&◌, nat_le, ℤ, Bool, List, [], ◌∷◌, ◌++◌, length, take, flat_map, Some, codes, if◌then◌else◌}
use Rattle.pit_model.specs.Pit.{Pit}
use Rattle.pit_plan.specs.Schedule.{Commit, held_period, limit_of, value_of}
use Rattle.pit_plan.specs.Shortfalls.{shortfalls_of}
use Rattle.pit_plan.specs.declared.breach.Breach.{Breach}
use Rattle.pit_plan.specs.declared.short.Short.{Short}
use Rattle.pit_step.specs.declared.status.Status.{Status}
use Rattle.pit_step.specs.declared.status.Status.TheVariants.{Fine, Failed}
use Rattle.pit_step.specs.LineTexts.{value_text, field_text, period_text, breach_text, shorts_text}
use Rattle.pit_all.specs.declared.out_of_order.OutOfOrder.{OutOfOrder}
use Rattle.pit_all.specs.declared.outs.TheConstants.{PAIRS_SHOWN}
use Rattle.pit_all.specs.Breaches.{outs_of, overs_of}

-- ---- lines

-- `precedence B A T S`
unfoldable pub out_text : OutOfOrder → List ℕ
out_text pair = codes "precedence " ++ (field_text pair.block 32 ++ (field_text pair.before 32 ++ (period_text pair.period (32 ∷ []) ++ period_text pair.earlier (10 ∷ []))))

unfoldable pub outs_text : List OutOfOrder → List ℕ
outs_text pairs = flat_map out_text pairs

-- `more N`, of so many pairs, where some are not shown
abbrev pub more_text : ℕ → List ℕ
more_text count = if nat_le count PAIRS_SHOWN then [] else codes "more " ++ field_text (count - PAIRS_SHOWN) 10

unfoldable pub overs_text : List Breach → List ℕ
overs_text overs = flat_map (λ over. breach_text (Some over)) overs

abbrev pub is_fine : ℕ → ℕ → ℕ → Bool
is_fine broken over short = broken == 0 && over == 0 && short == 0

-- `broken N over N short N`
unfoldable pub broken_text : ℕ → ℕ → ℕ → List ℕ
broken_text broken over short = codes "broken " ++ (field_text broken 32 ++ (codes "over " ++ (field_text over 32 ++ (codes "short " ++ field_text short 10))))

abbrev pub end_text : ℕ → ℕ → ℕ → List ℕ
end_text broken over short = if is_fine broken over short then codes "fine\n" else broken_text broken over short

-- ---- the text

-- of a value, the pairs that are shown, how many pairs there are, the loads above their limits, and the shortfalls
abbrev pub listing_text : ℤ → List OutOfOrder → ℕ → List Breach → List Short → List ℕ
listing_text value shown broken overs shorts =
    codes "value " ++ (value_text value ++ (outs_text shown ++ (more_text broken ++ (overs_text overs ++ (shorts_text shorts ++ end_text broken (length overs) (length shorts))))))

abbrev pub listing_status : ℕ → ℕ → ℕ → Status
listing_status broken over short = if is_fine broken over short then Fine else Failed

-- of a value, all pairs out of order, all loads above their limits, and all shortfalls
abbrev pub answer_with : ℤ → List OutOfOrder → List Breach → List Short → List ℕ × Status
answer_with value outs overs shorts =
    (listing_text value (take PAIRS_SHOWN outs) (length outs) overs shorts, listing_status (length outs) (length overs) (length shorts))

-- of what the commits leave
abbrev pub all_answer : Pit → List Commit → List ℕ × Status
all_answer pit commits =
    answer_with (value_of pit (held_period commits)) (outs_of pit (held_period commits))
    (overs_of pit (held_period commits) (limit_of pit commits)) (shortfalls_of pit (held_period commits))
