-- What is covered: laws that hold wherever the walk comes to.
-- Assumes nothing.
use mathlib.Core.Path.{subst, ◌≡◌, refl, ap, ◌∙◌}
use mathlib.Core.List.{List, [], ◌∷◌}
use Prim.Native.Nat.{ℕ, zero, suc, ◌+◌, ◌-◌, ◌<◌, ◌≤◌}
use native.Mathlib.Omega.{arith}
use borrow.Author.Tests.{le-leb}
use lib.ListN.{length}
use Rattle.format_items.specs.Items.{Field, Items}
use Rattle.format_items.specs.Met.{Met, met, return_index}
use Rattle.format_items.specs.MetRanges.{MetWithin, AllMetWithin}
use Rattle.format_items.proofs.MetLaws.{return_index_is}
use Rattle.format_items.proofs.MetWithinLaws.{drop_within}
use Rattle.list_elements.specs.Elements.{Kind}
use Rattle.sheet_walk.specs.declared.Refusal.{Refusal}
use Rattle.sheet_walk.specs.declared.State.{State}
use Rattle.sheet_walk.specs.Refusals.{refusal_place}
use Rattle.sheet_walk.specs.Given.{fields_of}
use Rattle.sheet_walk.specs.Steps.{Records, What, element, literal, Placement, Step, moves, covers, refused, ends, start, step, end_step}
use Rattle.sheet_walk.specs.Walk.{Sheet, sheet, Trace, put, done, stopped, after, pass, returns, at_end, walk}
use Rattle.sheet_walk.specs.Columns.{In, here, there}
use Rattle.sheet_walk.specs.Promises.{StopsWith, Comes, RefusedThere, RefusedBecause, EndsThere, CoversThere, ItemRefused, EndRefused, LiteralsWide, Walkable, EndsWith, Inside, Suited, place_of, elements_put, numbers_from, CoversInside, CoversReached, ElementsSuited, PutsEach}
use Rattle.sheet_walk.specs.Followed.{fields_in}
use Rattle.sheet_walk.proofs.StepLaws.{Moved, CoveredBy, Covered, Does, step_does, AtEnd, end_does}

-- ---- the sheet of an accepted format

pub sheet_walkable : (xs : Items) (kinds : List Kind) (rs : Records) → AllMetWithin (met xs) → 0 < rs.count → Walkable (sheet xs kinds rs)
sheet_walkable xs kinds rs all some =
    record { items_within = all; part_within = rw return_index_is at (drop_within (met xs) (return_index xs) all); some_record = some }

-- ---- where the walk stands

pub record Stands (h : Sheet) (s : State) : Type 0 where
  pub few : s.taken ≤ length h.kinds
  pub to : s.column ≤ h.records.width + 1
  pub from : Walkable h → 1 ≤ s.column
  pub in-records : Walkable h → s.row < h.records.count

pub start_stands : (h : Sheet) → Stands h start
start_stands h = record { few = omega arith; to = omega arith; from = λ w. omega arith; in-records = λ w. w.some_record }

pub moved_stands : (h : Sheet) (x : Met) (s n : State) → Stands h s → (Walkable h → MetWithin x) → Moved h.records x s n → s.taken + fields_of x ≤ length h.kinds → Stands h n
moved_stands h x s n i within m l =
    record {
      few = omega arith;
      to = m.to i.to;
      from = λ w. m.from (within w) (i.from w);
      in-records = λ w. m.row_in (i.in-records w);
    }

-- what covers takes an element that there is, or none
pub few_covered : (kinds : List Kind) (x : Met) (s : State) (w : ℕ) (what : What) → CoveredBy kinds x s w what → s.taken ≤ length kinds → s.taken + fields_of x ≤ length kinds
few_covered kinds x s w (element i f) by l = rw by.0 (omega arith)
few_covered kinds x s w (literal cs) by l = rw by.0 (omega arith)

-- ---- what is kept by every step and holds at every end holds of the walk

module _ (h : Sheet) (P : State → Trace → Type 0)
    (goes : (s n : State) (t : Trace) → s.row ≤ n.row → n.taken ≡ s.taken → P n t → P s t)
    (puts : (x : Met) (s n : State) (p : Placement) (t : Trace) → Stands h s → Covered h.kinds h.records x s p n → CoversThere h p → P n t → P s (put p t))
    (finishes : (s : State) → Stands h s → s.taken ≡ length h.kinds → EndsThere h s → P s (done (s.row + 1)))
    (stops : (s : State) (why : Refusal) → RefusedThere h s why → P s (stopped why)) where
  every_step : (x : Met) (xs : List Met) (st : Step) (s : State) (next : State → Trace) → Comes h (x ∷ xs) s → step h.kinds h.records x s ≡ st
      → Stands h s → (Walkable h → MetWithin x) → Does h.kinds h.records x s st
      → ((n : State) → Comes h xs n → Stands h n → n.taken ≡ s.taken + fields_of x → P n (next n)) → P s (after st s next)
  every_step x xs (moves n) s next c e i within d rest =
      goes s n (next n) d.0.row_on (omega arith) (rest n (Comes.moved c e) (moved_stands h x s n i within d.0 (omega arith)) d.0.takes)
  every_step x xs (covers p n) s next c e i within d rest =
      puts x s n p (next n) i d (CoversThere.at_item c e)
      (rest n (Comes.covered c e) (moved_stands h x s n i within d.moved (few_covered h.kinds x s p.width p.what d.by i.few))
      d.moved.takes)
  every_step x xs (refused why) s next c e i within d rest = stops s why (RefusedThere.at_item c d)
  every_step x xs ends s next c e i within d rest = finishes s i (omega arith) (EndsThere.at_item c e)

  every_pass : (next : State → Trace) (xs : List Met) (s : State) → Comes h xs s → Stands h s → (Walkable h → AllMetWithin xs)
      → ((n : State) → Comes h [] n → Stands h n → n.taken ≡ s.taken + fields_in xs → P n (next n)) → P s (pass h next xs s)
  unfolding pass fields_in
  every_pass next [] s c i within rest = rest s c i (omega arith)
  every_pass next (x ∷ xs) s c i within rest =
      every_step x xs (step h.kinds h.records x s) s (pass h next xs) c refl i (λ w. (within w).0) (step_does h.kinds h.records s x)
      (λ n c₁ j t. every_pass next xs n c₁ j (λ w. (within w).1) (λ m c₂ k u. rest m c₂ k (omega arith)))

  every_end : (st : Step) (s : State) (next : State → Trace) → Comes h [] s → end_step h.kinds h.records h.part s ≡ st
      → Stands h s → AtEnd h.kinds h.records s h.part st
      → ((n : State) → Comes h h.part n → Stands h n → n.taken ≡ s.taken → 1 ≤ fields_in h.part → P n (next n)) → P s (after st s next)
  every_end (moves n) s next c e i d rest =
      goes s n (next n) d.0.row_on (omega (arith, d.0.takes))
      (rest n (Comes.returned c e) (moved_stands h Met.slash s n i (λ w. tt) d.0 (omega arith)) (omega (arith, d.0.takes)) d.1)
  every_end (covers p n) s next c e i d rest = absurd d
  every_end (refused why) s next c e i d rest = stops s why (RefusedThere.at_end_lem c d)
  every_end ends s next c e i d rest = finishes s i (omega arith) (EndsThere.at_end_lem c e)

  every_return : (k : ℕ) (s : State) → Comes h [] s → Stands h s → length h.kinds ≤ s.taken + k → P s (returns h k s)
  unfolding returns end_step
  every_return zero s c i l = finishes s i (omega arith) (EndsThere.at_end_lem c (rw (le-leb (length h.kinds) s.taken (omega arith))))
  every_return (suc k) s c i l =
      every_end (end_step h.kinds h.records h.part s) s (pass h (returns h k) h.part) c refl i (end_does h.kinds h.records s h.part)
      (λ n c₁ j t some. every_pass (returns h k) h.part n c₁ j (λ w. w.part_within) (λ m c₂ j₁ u. every_return k m c₂ j₁ (omega arith)))

  pub every : P start (walk h)
  unfolding walk at_end
  every =
      every_pass (at_end h) h.items start Comes.begins (start_stands h) (λ w. w.items_within)
      (λ n c j t. every_return (length h.kinds) n c j (omega arith))

-- ---- the placements and the end of a walk

pub in-put : (Q : Placement → Type 0) {p : Placement} {t : Trace} → Q p → ((q : Placement) → In q t → Q q) → (q : Placement) → In q (put p t) → Q q
in-put Q a rest q here = a
in-put Q a rest q (there m) = rest q m

pub in-done : (Q : Placement → Type 0) (n : ℕ) (q : Placement) → In q (done n) → Q q
in-done Q n q = elim [ ]

pub in-stopped : (Q : Placement → Type 0) (why : Refusal) (q : Placement) → In q (stopped why) → Q q
in-stopped Q why q = elim [ ]

pub ends_put : {n : ℕ} {p : Placement} {t : Trace} → EndsWith n (put p t) → EndsWith n t
ends_put (EndsWith.there e) = e

pub ends_done : {m n : ℕ} → EndsWith n (done m) → m ≡ n
ends_done EndsWith.here = refl

pub ends_stopped : {n : ℕ} {why : Refusal} → EndsWith n (stopped why) → ⊥
ends_stopped = elim [ ]

-- ---- every placement lies in the records, and in those reached

pub covered_inside : (h : Sheet) (x : Met) (s n : State) (p : Placement) (k : ℕ) → Stands h s → Covered h.kinds h.records x s p n → Walkable h → s.row < k → Inside h.records.width k p
covered_inside h x s n p k i c w l = let from = i.from w in record { in-record = omega arith; from = omega arith; to = omega (arith, c.moved.to i.to) }

pub covers_inside : CoversInside
covers_inside h w =
    every h (λ s t. (p : Placement) → In p t → Inside h.records.width h.records.count p)
    (λ s n t r e rest. rest)
    (λ x s n p t i c _ rest. in-put (Inside h.records.width h.records.count) (covered_inside h x s n p h.records.count i c w (i.in-records w)) rest)
    (λ s i e _. in-done (Inside h.records.width h.records.count) (s.row + 1))
    (λ s why _. in-stopped (Inside h.records.width h.records.count) why)

-- from s on the walk reaches a later record than that of s
abbrev Reaches : Sheet → State → Trace → Type 0
Reaches h s t = (n : ℕ) → EndsWith n t → (s.row < n) × (n ≤ h.records.count) × ((p : Placement) → In p t → Inside h.records.width n p)

reaches : (h : Sheet) → Walkable h → Reaches h start (walk h)
reaches h w =
    every h (Reaches h)
    (λ s n t r e rest k m. let a = rest k m in (omega arith, a.1, a.2))
    (λ x s n p t i c _ rest k m.
    let a = rest k (ends_put m) in
    let l : s.row < k = omega (arith, c.moved.row_on) in
    (l, a.1, in-put (Inside h.records.width k) (covered_inside h x s n p k i c w l) a.2))
    (λ s i e _ k m. let d = ends_done m in let l = i.in-records w in (omega arith, omega arith, in-done (Inside h.records.width k) (s.row + 1)))
    (λ s why _ k m. absurd (ends_stopped m))

pub covers_reached : CoversReached
covers_reached h w n m = let a = reaches h w n m in (a.1, a.2)

-- ---- the elements put

-- what covers the columns of a placement, where it is an element
abbrev Suits : Sheet → Placement → Type 0
Suits h p = (i : ℕ) (f : Field ℕ) → p.what ≡ element i f → Suited h.kinds i f p.width

pub elements_suited : ElementsSuited
elements_suited h =
    every h (λ s t. (p : Placement) → In p t → Suits h p)
    (λ s n t r e rest. rest)
    (λ x s n p t i c _ rest. in-put (Suits h) (λ j f e. (rw e at c.by).2) rest)
    (λ s i e _. in-done (Suits h) (s.row + 1))
    (λ s why _. in-stopped (Suits h) why)

-- a literal covers as many columns as it has characters
abbrev Literal : Placement → Type 0
Literal p = (cs : List ℕ) → p.what ≡ literal cs → p.width ≡ length cs

pub literals_wide : LiteralsWide
literals_wide h =
    every h (λ s t. (p : Placement) → In p t → Literal p)
    (λ s n t r e rest. rest)
    (λ x s n p t i c _ rest. in-put Literal (λ cs e. (rw e at c.by).1) rest)
    (λ s i e _. in-done Literal (s.row + 1))
    (λ s why _. in-stopped Literal why)

-- the elements from that of s on, one of them put or none
puts_one : (kinds : List Kind) (x : Met) (s n : State) (w : ℕ) (what : What) (is : List ℕ) → CoveredBy kinds x s w what → n.taken ≡ s.taken + fields_of x
    → is ≡ numbers_from n.taken (length kinds - n.taken) → place_of what is ≡ numbers_from s.taken (length kinds - s.taken)
unfolding numbers_from
puts_one kinds x s n w (element i f) is by t e =
    let t₁ : n.taken ≡ s.taken + 1 = t ∙ rw by.0 in
    let l : length kinds - s.taken ≡ suc (length kinds - (s.taken + 1)) = omega arith in
    rw (l, by.1, e, t₁)
puts_one kinds x s n w (literal cs) is by t e = let t₁ : n.taken ≡ s.taken = t ∙ rw by.0 (omega arith) in e ∙ rw t₁

-- from s on the walk puts the elements that remain
abbrev Puts : Sheet → State → Trace → Type 0
Puts h s t = (n : ℕ) → EndsWith n t → elements_put t ≡ numbers_from s.taken (length h.kinds - s.taken)

puts_remaining : (h : Sheet) → Puts h start (walk h)
unfolding elements_put numbers_from
puts_remaining h =
    every h (Puts h)
    (λ s n t r e rest k m. rest k m ∙ rw e)
    (λ x s n p t i c _ rest k m. puts_one h.kinds x s n p.width p.what (elements_put t) c.by c.moved.takes (rest k (ends_put m)))
    (λ s i e _ k m. let z : length h.kinds - s.taken ≡ 0 = omega arith in rw z)
    (λ s why _ k m. absurd (ends_stopped m))

pub puts_each : PutsEach
puts_each h n m = puts_remaining h n m ∙ ap (numbers_from 0) (omega arith)

-- as many as there are
pub length_numbers : (i n : ℕ) → length (numbers_from i n) ≡ n
unfolding numbers_from
length_numbers i zero = refl
length_numbers i (suc n) = ap suc (length_numbers (i + 1) n)

-- ---- refusals

stops_put : {why : Refusal} {p : Placement} {t : Trace} → StopsWith why (put p t) → StopsWith why t
stops_put (StopsWith.there m) = m

stops_done : {why : Refusal} {n : ℕ} → StopsWith why (done n) → ⊥
stops_done m = elim m [ ]

stops_same : {why x : Refusal} → StopsWith why (stopped x) → x ≡ why
stops_same StopsWith.here = refl

-- one element more is taken where one is put
takes_one : (kinds : List Kind) (x : Met) (s n : State) (w : ℕ) (what : What) (is : List ℕ) → CoveredBy kinds x s w what → n.taken ≡ s.taken + fields_of x
    → n.taken + length is ≡ s.taken + length (place_of what is)
takes_one kinds x s n w (element i f) is by t = let t₁ : n.taken ≡ s.taken + 1 = t ∙ rw by.0 in omega arith
takes_one kinds x s n w (literal cs) is by t = let t₁ : n.taken ≡ s.taken = t ∙ rw by.0 (omega arith) in omega arith

-- a refusal's place is the number of elements taken
item_place : {kinds : List Kind} {rs : Records} {s : State} {x : Met} {why : Refusal} → ItemRefused kinds rs s x why → refusal_place why ≡ s.taken
item_place (ItemRefused.wrong_kind a b) = refl
item_place (ItemRefused.field_columns_lem a b l) = refl
item_place (ItemRefused.literal_columns l) = refl
item_place (ItemRefused.X-column l) = refl
item_place (ItemRefused.T-column l) = refl
item_place (ItemRefused.slash_record l) = refl

end_place : {kinds : List Kind} {rs : Records} {part : List Met} {s : State} {why : Refusal} → EndRefused kinds rs part s why → refusal_place why ≡ s.taken
end_place (EndRefused.no_field a b) = refl
end_place (EndRefused.no_record a b l) = refl

there_place : {h : Sheet} {s : State} {why : Refusal} → RefusedThere h s why → refusal_place why ≡ s.taken
there_place (RefusedThere.at_item c r) = item_place r
there_place (RefusedThere.at_end_lem c r) = end_place r

-- from s on the walk is refused at u
pub record Stops (h : Sheet) (s : State) (t : Trace) (why : Refusal) : Type 0 where
  pub u : State
  pub reason : RefusedThere h u why
  pub takes : u.taken ≡ s.taken + length (elements_put t)

abbrev Stopping : Sheet → State → Trace → Type 0
Stopping h s t = (why : Refusal) → StopsWith why t → Stops h s t why

stopping : (h : Sheet) → Stopping h start (walk h)
unfolding elements_put
stopping h =
    every h (Stopping h)
    (λ s n t r e rest y k. let a = rest y k in record { u = a.u; reason = a.reason; takes = omega (arith, a.takes) })
    (λ x s n p t i c _ rest y k.
    let a = rest y (stops_put k) in
    record { u = a.u; reason = a.reason; takes = a.takes ∙ takes_one h.kinds x s n p.width p.what (elements_put t) c.by c.moved.takes })
    (λ s i e _ y k. absurd (stops_done k))
    (λ s y g z k. record { u = s; reason = subst (RefusedThere h s) (stops_same k) g; takes = omega arith })

pub refused_because : RefusedBecause
refused_because h why m =
    let a = stopping h why m in
    (a.u, a.reason, a.takes ∙ omega arith, there_place a.reason)
