-- The items met of a format whose numbers are within their ranges.
-- Assumes nothing.
use mathlib.Core.Path.{sym, subst}
use mathlib.Core.List.{List, [], ◌∷◌, ◌++◌}
use Prim.Native.Nat.{ℕ, ◌*◌, ◌<◌, ◌≤◌}
use native.Mathlib.Nat.{mul-le-mul}
use native.Mathlib.Omega.{arith}
use lib.ListN.{length, replicate, length-append, length-replicate}
use Rattle.format_items.specs.Items.{Number, times, Items}
use Rattle.format_grammar.specs.Grammar.{Nonterminal, Derives}
use Rattle.format_items.specs.Ranges.{Ranged, range_n, repeat_numbers, field_numbers, numbers, AllWithin, Within}
use Rattle.format_items.specs.Met.{Met, field_values, repeat, met}
use Rattle.format_grammar.specs.Promises.{MetInRange}
use Rattle.format_items.specs.MetRanges.{AllMetWithin}
use Rattle.format_items.proofs.ItemLaws.{numbers_join}
use Rattle.format_items.proofs.RangeLaws.{within_left, within_right, times_some}
use Rattle.format_items.proofs.MetLaws.{length_repeat, met_join}
use Rattle.format_items.proofs.MetWithinLaws.{all_append, all_replicate, all_repeat, field_within}

-- ---- each item

first_within : (n : Number) (ns : List Ranged) → AllWithin (range_n n ∷ ns) → Within (range_n n)
first_within n ns h = h.0

derived_within : {s : List ℕ} {k : Nonterminal} {l a b : ℕ} {x : Items} → Derives s k l a x b → AllWithin (numbers x) → AllMetWithin (met x)
unfolding met numbers
derived_within (Derives.field {r} {k} rep f) h =
    all_append (replicate (times r) (Met.field (field_values k))) [] (all_replicate (times r) (Met.field (field_values k)) (field_within k (within_right (repeat_numbers r) (field_numbers k) (within_left (repeat_numbers r ++ field_numbers k) [] h)))) tt
derived_within (Derives.group {r} {xs} rep o d c) h =
    all_append (repeat (times r) (met xs)) [] (all_repeat (times r) (met xs) (derived_within d (within_right (repeat_numbers r) (numbers xs) (within_left (repeat_numbers r ++ numbers xs) [] h)))) tt
derived_within (Derives.X {n} m x) h = (first_within n [] h, tt)
derived_within (Derives.T {n} t m) h = (first_within n [] h, tt)
derived_within (Derives.slash {r} rep x) h = all_append (replicate (times r) Met.slash) [] (all_replicate (times r) Met.slash tt) tt
derived_within (Derives.literal f) h = ((f.some, f.printable), tt)
derived_within (Derives.setting k) h = (tt, tt)
derived_within (Derives.one d) h = derived_within d h
derived_within (Derives.more {xs} {x} d c e) h =
    let g : AllWithin (numbers xs ++ numbers x) = subst AllWithin (numbers_join xs x) h in
    subst AllMetWithin (sym (met_join xs x))
    (all_append (met xs) (met x) (derived_within d (within_left (numbers xs) (numbers x) g)) (derived_within e (within_right (numbers xs) (numbers x) g)))

-- ---- at least one

derived_some : {s : List ℕ} {k : Nonterminal} {l a b : ℕ} {x : Items} → Derives s k l a x b → AllWithin (numbers x) → 0 < length (met x)
unfolding met numbers
derived_some (Derives.field {r} {k} rep f) h =
    let g = times_some r (within_left (repeat_numbers r) (field_numbers k) (within_left (repeat_numbers r ++ field_numbers k) [] h)) in
    let m = Met.field (field_values k) in
    omega (arith, length-append (replicate (times r) m) [], length-replicate (times r) m)
derived_some (Derives.group {r} {xs} rep o d c) h =
    let g = times_some r (within_left (repeat_numbers r) (numbers xs) (within_left (repeat_numbers r ++ numbers xs) [] h)) in
    let i = derived_some d (within_right (repeat_numbers r) (numbers xs) (within_left (repeat_numbers r ++ numbers xs) [] h)) in
    let p : 1 * 1 ≤ times r * length (met xs) = mul-le-mul g i in
    omega (arith, length-append (repeat (times r) (met xs)) [], length_repeat (times r) (met xs))
derived_some (Derives.X n x) h = omega arith
derived_some (Derives.T t n) h = omega arith
derived_some (Derives.slash {r} rep x) h =
    let g = times_some r (within_left (repeat_numbers r) [] h) in
    omega (arith, length-append (replicate (times r) Met.slash) [], length-replicate (times r) Met.slash)
derived_some (Derives.literal f) h = omega arith
derived_some (Derives.setting k) h = omega arith
derived_some (Derives.one d) h = derived_some d h
derived_some (Derives.more {xs} {x} d c e) h =
    let g : AllWithin (numbers xs ++ numbers x) = subst AllWithin (numbers_join xs x) h in
    let i = derived_some d (within_left (numbers xs) (numbers x) g) in
    rw (met_join xs x) (omega (arith, length-append (met xs) (met x)))

pub met_in_range : MetInRange
met_in_range s xs h = (derived_within h.format.items h.ranges, derived_some h.format.items h.ranges)
