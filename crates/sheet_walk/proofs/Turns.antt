-- One turn of the walk: an item, or the end of the format. What is left of the walk after it, and that it comes to an end.
-- Assumes nothing.
use Rattle.std.proofs.Common.{◌≡◌, ◌∙◌, ◌∷◌, ℕ, suc, ◌+◌, ◌-◌, ◌*◌, ◌<◌, ◌≤◌, arith, length, drop, get_or}
use lib.ListN.{drop_of_length-le}
use lib.Seq.{drop-cons}
use native.Mathlib.Numerals.{add-one}
use native.Mathlib.Nat.{suc-mul, mul-le-mul_right}
use Rattle.format_items.specs.Met.{Met}
use Rattle.sheet_walk.specs.Given.{fields_of}
use Rattle.sheet_walk.specs.Steps.{step, end_step}
use Rattle.sheet_walk.specs.Walk.{Sheet, Trace, after, pass, at_end}
use Rattle.sheet_walk.specs.declared.State.{State}
use Rattle.sheet_walk.specs.Followed.{fields_in, turns_left}
use Rattle.sheet_walk.proofs.Returns.{end_is}

-- the walk from the item of an index on
abbrev pub walk_at : Sheet → ℕ → State → Trace
walk_at h i s = pass h (at_end h) (drop i h.items) s

-- the item of an index
abbrev pub item_at : Sheet → ℕ → Met
item_at h i = get_or h.items i Met.slash

module _ (h : Sheet) (i : ℕ) (s : State) where
  module _ (inside : i < length h.items) where
    item_first : drop i h.items ≡ item_at h i ∷ drop (i + 1) h.items
    item_first = rw (add-one i) (drop-cons h.items i Met.slash inside)

    pub item_turn : walk_at h i s ≡ after (step h.kinds h.records (item_at h i) s) s (walk_at h (i + 1))
    unfolding pass
    item_turn = rw item_first

    pub item_less : (n : State) → n.taken ≡ s.taken + fields_of (item_at h i) → turns_left h (i + 1) n < turns_left h i s
    unfolding fields_in
    item_less n t =
        let f = fields_in (drop (i + 1) h.items) in
        let e : n.taken + f ≡ s.taken + (fields_of (item_at h i) + f) = omega arith in
        rw (item_first, e) (omega arith)

  module _ (past : length h.items ≤ i) (back : ℕ) (returns_to : h.part ≡ drop back h.items) where
    pub end_turn : walk_at h i s ≡ after (end_step h.kinds h.records h.part s) s (walk_at h back)
    unfolding pass
    end_turn = rw (drop_of_length-le h.items past) (end_is h s ∙ rw returns_to)

    pub end_less : (n : State) → n.taken ≡ s.taken → s.taken < length h.kinds → 1 ≤ fields_in h.part → turns_left h back n < turns_left h i s
    unfolding fields_in
    end_less n t g some =
        let m = length h.items in
        let a = length h.kinds - (n.taken + fields_in (drop back h.items)) in
        let b = length h.kinds - (s.taken + 0) in
        let some' : 1 ≤ fields_in (drop back h.items) = rw returns_to at some in
        let k : suc a ≤ b = omega arith in
        let p : suc a * (m + 1) ≤ b * (m + 1) = mul-le-mul_right (m + 1) k in
        let q : suc a * (m + 1) ≡ a * (m + 1) + (m + 1) = suc-mul a (m + 1) in
        rw (drop_of_length-le h.items past) (omega arith)
