-- The check of values over a walk: row 11 is met exactly where a decimal rounds to more than the largest units.
-- Assumes nothing.
use mathlib.Core.Path.{◌≡◌, refl, sym, ap, ◌∙◌}
use mathlib.Core.Bool.{Bool, true, false, cond}
use mathlib.Core.List.{List}
use Prim.Native.Nat.{ℕ, ◌<◌, ◌≤◌}
use native.Mathlib.Nat.{zero-mul}
use native.Mathlib.Omega.{arith}
use borrow.Author.Tests.{le-ltb, ltb-true}
use lib.IntN.{ℤ, pos, nat_abs}
use Rattle.number.specs.Limits.{largest}
use Rattle.number.specs.Rounding.{Nearest, rounded_units, too_large}
use Rattle.number.proofs.RoundingLaws.{nearest_up, rounded_is}
use Rattle.field_written.proofs.Promises.{small_units}
use Rattle.format_items.specs.Items.{Field}
use Rattle.buffer.proofs.Tests.{no_way}
use Rattle.list_elements.specs.declared.Decimal.{Decimal}
use Rattle.list_elements.specs.declared.Value.{Value}
use Rattle.list_elements.specs.declared.Value.TheVariants as value
use Rattle.sheet_walk.specs.Steps.{What, element, literal, Placement}
use Rattle.sheet_walk.specs.Walk.{Trace, put, done, stopped}
use Rattle.sheet_walk.specs.Columns.{In}
use Rattle.sheet_walk.specs.Promises.{EndsWith, StopsWith}
use Rattle.sheet_walk.specs.declared.Refusal.{Refusal}
use Rattle.sheet_walk.specs.declared.Refusal.TheVariants.{TooLarge}
use Rattle.sheet_walk.proofs.Covering.{in-put, in-done, in-stopped}
use Rattle.write_passes.specs.Placed.{value_at, field_too_large, Judged, accepted, refused, judged_at, judged}
use Rattle.sheet_write.specs.Promises.{RoundsWithin, TooLargeAt}

-- ---- one value

-- zero is never too large
zero_small : (d : ℕ) → too_large (pos 0) 0 d ≡ false
unfolding too_large rounded_units
zero_small d = rw (nearest_up 0 0 d (omega arith) refl, zero-mul) refl

-- a decimal whose rounded units are no larger is not too large
decimal_small : (x : Decimal) (d : ℕ) → ((r : ℤ) → Nearest x.units x.places d r → nat_abs r ≤ largest) → too_large x.units x.places d ≡ false
unfolding too_large
decimal_small x d h =
    let r : ℤ = rounded_units x.units x.places d in
    le-ltb largest (nat_abs r) (h r ((rounded_is x.units x.places d r).1 refl))

-- under any field
field_small : (f : Field ℕ) (v : Value)
    → ((u d : ℕ) (x : Decimal) → f ≡ Field.F u d → v ≡ value.Decimal x → (r : ℤ) → Nearest x.units x.places d r → nat_abs r ≤ largest)
    → field_too_large f v ≡ false
unfolding field_too_large
field_small (Field.I w) v h = refl
field_small (Field.F w d) (value.Integer n) h = zero_small d
field_small (Field.F w d) (value.Decimal x) h = decimal_small x d (h w d x refl refl)
field_small (Field.F w d) (value.Logical b) h = zero_small d
field_small (Field.F w d) (value.Text t) h = zero_small d
field_small (Field.L w) v h = refl
field_small Field.A v h = refl
field_small (Field.Aw w) v h = refl

-- a value too large under a field is a decimal under F that rounds to more than the largest units
abbrev Large : Field ℕ → Value → Type 0
Large f v = (u : ℕ) × (d : ℕ) × (x : Decimal) × (r : ℤ) × (f ≡ Field.F u d) × (v ≡ value.Decimal x) × Nearest x.units x.places d r × (largest < nat_abs r)

clash : {A : Type 0} {b : Bool} → b ≡ true → b ≡ false → A
clash e f = no_way (sym f ∙ e)

field_large : (f : Field ℕ) (v : Value) → field_too_large f v ≡ true → Large f v
unfolding field_too_large too_large
field_large (Field.I w) v e = clash e refl
field_large (Field.F w d) (value.Integer n) e = clash e (zero_small d)
field_large (Field.F w d) (value.Decimal x) e =
    let r : ℤ = rounded_units x.units x.places d in
    (w, d, x, r, refl, refl, (rounded_is x.units x.places d r).1 refl, ltb-true largest (nat_abs r) e)
field_large (Field.F w d) (value.Logical b) e = clash e (zero_small d)
field_large (Field.F w d) (value.Text t) e = clash e (zero_small d)
field_large (Field.L w) v e = clash e refl
field_large Field.A v e = clash e refl
field_large (Field.Aw w) v e = clash e refl

-- ---- one placement

-- where it rounds within the limit, the check of its value passes
pub rounds_small : (vs : List Value) (p : Placement) → RoundsWithin vs p → (i : ℕ) (f : Field ℕ) → p.what ≡ element i f → field_too_large f (value_at vs i) ≡ false
rounds_small vs p h i f q = field_small f (value_at vs i) (λ u d x e v. h i u d x (q ∙ ap (element i) e) v)

-- and the other way round
small_rounds : (vs : List Value) (p : Placement) → ((i : ℕ) (f : Field ℕ) → p.what ≡ element i f → field_too_large f (value_at vs i) ≡ false) → RoundsWithin vs p
unfolding field_too_large
small_rounds vs p small i u d x q v r near =
    let e : too_large x.units x.places d ≡ false = rw v at (small i (Field.F u d) q) in
    rw ((rounded_is x.units x.places d r).0 near) (small_units x.units x.places d e)

-- ---- a walk

-- every placement rounds within the limit
abbrev AllRound : List Value → Trace → Type 0
AllRound vs t = (p : Placement) → In p t → RoundsWithin vs p

-- how a walk ends in writing, and why
pub data Told (vs : List Value) (t : Trace) : Judged → Type 0 where
  ends : {n : ℕ} → EndsWith n t → AllRound vs t → Told vs t (accepted n)
  stops : {why : Refusal} → StopsWith why t → AllRound vs t → Told vs t (refused why)
  large : {i : ℕ} → TooLargeAt vs i t → Told vs t (refused (TooLarge i))

-- a literal has no value to round
literal_rounds : (vs : List Value) (p : Placement) (cs : List ℕ) → p.what ≡ literal cs → RoundsWithin vs p
literal_rounds vs p cs q i u d x s =
    let z : literal cs ≡ element i (Field.F u d) = sym q ∙ s in
    let y : ◌≡◌ {A = ℕ} 0 1 = cc in
    absurd (omega arith)

-- an element whose check passes rounds within the limit
element_rounds : (vs : List Value) (p : Placement) (i : ℕ) (f : Field ℕ) → p.what ≡ element i f → field_too_large f (value_at vs i) ≡ false → RoundsWithin vs p
element_rounds vs p i f q e =
    small_rounds vs p (λ k g s.
    let z : element k g ≡ element i f = sym s ∙ q in
    let a : k ≡ i = cc in
    let b : g ≡ f = cc in
    rw (a, b) e)

-- a placement before a walk so told
told_after : {vs : List Value} {p : Placement} {t : Trace} {j : Judged} → RoundsWithin vs p → Told vs t j → Told vs (put p t) j
told_after {vs} r (Told.ends e all) = Told.ends (EndsWith.there e) (in-put (RoundsWithin vs) r all)
told_after {vs} r (Told.stops s all) = Told.stops (StopsWith.there s) (in-put (RoundsWithin vs) r all)
told_after r (Told.large l) = Told.large (TooLargeAt.there r l)

told_put : (vs : List Value) (p : Placement) (t : Trace) (j : Judged) → Told vs t j → Told vs (put p t) (judged_at vs p.what j)
told_put vs p t j rest = go p.what refl
  where
    test : (i : ℕ) (f : Field ℕ) → p.what ≡ element i f → (b : Bool) → field_too_large f (value_at vs i) ≡ b → Told vs (put p t) (cond b (refused (TooLarge i)) j)
    test i f q true e =
        let l = field_large f (value_at vs i) e in
        Told.large (TooLargeAt.here (q ∙ ap (element i) l.4) l.5 l.6 l.7)
    test i f q false e = told_after (element_rounds vs p i f q e) rest

    go : (what : What) → p.what ≡ what → Told vs (put p t) (judged_at vs what j)
    go (element i f) q = test i f q (field_too_large f (value_at vs i)) refl
    go (literal cs) q = told_after (literal_rounds vs p cs q) rest

pub told : (vs : List Value) (t : Trace) → Told vs t (judged vs t)
unfolding judged
told vs (put p t) = told_put vs p t (judged vs t) (told vs t)
told vs (done n) = Told.ends EndsWith.here (in-done (RoundsWithin vs) n)
told vs (stopped why) = Told.stops StopsWith.here (in-stopped (RoundsWithin vs) why)
