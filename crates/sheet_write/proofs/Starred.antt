-- A numeric field is asterisks exactly when no numeral stands for its value, and the starred number counts these fields.
-- Assumes nothing.
use mathlib.Core.Path.{◌≡◌, refl, sym, ap, ◌∙◌, subst}
use mathlib.Core.Logic.{◌↔◌}
use mathlib.Core.Bool.{Bool, true, false, cond}
use mathlib.Core.List.{List, [], map}
use Prim.Native.Nat.{ℕ, ◌+◌}
use native.Mathlib.Omega.{arith}
use lib.ListN.{get_or, replicate, get_or-map}
use lib.IntN.{ℤ}
use Rattle.buffer.specs.Characters.{asterisk}
use Rattle.number.specs.Rounding.{rounded_units}
use Rattle.number.proofs.RoundingLaws.{rounded_is}
use Rattle.settings.specs.declared.Settings.{Settings}
use Rattle.field_written.specs.Numeral.{Numeric, stands_for}
use Rattle.field_written.specs.Written.{field}
use Rattle.field_written.proofs.Promises as fields
use Rattle.format_items.specs.Items.{Field}
use Rattle.buffer.proofs.Tests.{no_way}
use Rattle.list_elements.specs.Elements.{Kind, integer, kind_of, zero_value}
use Rattle.list_elements.specs.declared.Decimal.{Decimal}
use Rattle.list_elements.specs.declared.Value.{Value}
use Rattle.list_elements.specs.declared.Value.TheVariants as value
use Rattle.sheet_walk.specs.Steps.{What, element, literal, Placement, suits, field_width}
use Rattle.sheet_walk.specs.Walk.{Trace, put, done, stopped}
use Rattle.sheet_walk.specs.Columns.{In, here, there}
use Rattle.sheet_walk.specs.Promises.{Suited}
use Rattle.write_passes.specs.Placed.{integer_of, decimal_of, value_at, field_characters, field_starred, starred_of, is_starred, starred_in}
use Rattle.sheet_write.specs.Promises.{numeric, NoNumeral, Shows, Unrepresentable, Counted}

-- ---- one field of a value that suits it

-- an integer under I: its field is asterisks exactly when no numeral stands for it
integer_none : (g : Settings) (n : ℤ) (w : ℕ) → (field g.signs Numeric.I w n ≡ replicate w asterisk) ↔ NoNumeral g (value.Integer n) (Field.I w)
integer_none g n w = ((λ e. NoNumeral.integer refl ((fields.stars_exactly_when g.signs Numeric.I w n).0 e)), back)
  where
    back : NoNumeral g (value.Integer n) (Field.I w) → field g.signs Numeric.I w n ≡ replicate w asterisk
    back (NoNumeral.integer e none) = (fields.stars_exactly_when g.signs Numeric.I w n).1 (λ t q. none t (q ∙ ap integer_of e))

-- a decimal under F: the same for the nearest multiple
decimal_none : (g : Settings) (x : Decimal) (d w : ℕ) → (field g.signs (Numeric.F d) w (rounded_units x.units x.places d) ≡ replicate w asterisk) ↔ NoNumeral g (value.Decimal x) (Field.F w d)
decimal_none g x d w = (
  (λ e. NoNumeral.decimal refl (λ t near. (fields.stars_exactly_when g.signs (Numeric.F d) w r).0 e t ((rounded_is x.units x.places d (stands_for t)).0 near))),
  back,
)
  where
    r : ℤ
    r = rounded_units x.units x.places d

    back : NoNumeral g (value.Decimal x) (Field.F w d) → field g.signs (Numeric.F d) w r ≡ replicate w asterisk
    back (NoNumeral.decimal {x = y} e none) =
        let q : x ≡ y = ap decimal_of e in
        (fields.stars_exactly_when g.signs (Numeric.F d) w r).1
        (λ t s. none t (rw (← q) ((rounded_is x.units x.places d (stands_for t)).1 s)))

-- its characters, the columns being those of the field
stars_none : (area : List ℕ) (g : Settings) (f : Field ℕ) (k : Kind) (v : Value) → suits f (kind_of v) ≡ true → numeric f ≡ true
    → (field_characters area g f (field_width f k) v ≡ replicate (field_width f k) asterisk) ↔ NoNumeral g v f
unfolding field_characters
stars_none area g (Field.I w) k (value.Integer n) s e = integer_none g n w
stars_none area g (Field.I w) k (value.Decimal x) s e = no_way s
stars_none area g (Field.I w) k (value.Logical b) s e = no_way s
stars_none area g (Field.I w) k (value.Text t) s e = no_way s
stars_none area g (Field.F w d) k (value.Integer n) s e = no_way s
stars_none area g (Field.F w d) k (value.Decimal x) s e = decimal_none g x d w
stars_none area g (Field.F w d) k (value.Logical b) s e = no_way s
stars_none area g (Field.F w d) k (value.Text t) s e = no_way s
stars_none area g (Field.L w) k v s e = no_way e
stars_none area g Field.A k v s e = no_way e
stars_none area g (Field.Aw w) k v s e = no_way e

-- whether it is starred
starred_none : (g : Settings) (f : Field ℕ) (k : Kind) (v : Value) → suits f (kind_of v) ≡ true → (field_starred g f (field_width f k) v ≡ true) ↔ NoNumeral g v f
unfolding field_starred field_characters
starred_none g (Field.I w) k v s =
    let a = fields.starred_is g.signs Numeric.I w (integer_of v) in
    let b = stars_none [] g (Field.I w) k v s refl in
    ((λ e. b.0 (a.0 e)), (λ e. a.1 (b.1 e)))
starred_none g (Field.F w d) k v s =
    let a = fields.starred_is g.signs (Numeric.F d) w (rounded_units (decimal_of v).units (decimal_of v).places d) in
    let b = stars_none [] g (Field.F w d) k v s refl in
    ((λ e. b.0 (a.0 e)), (λ e. a.1 (b.1 e)))
starred_none g (Field.L w) k v s = (no_way, elim [ ])
starred_none g Field.A k v s = (no_way, elim [ ])
starred_none g (Field.Aw w) k v s = (no_way, elim [ ])

-- where there is a numeral, the field is one
not_starred : (g : Settings) (f : Field ℕ) (k : Kind) (v : Value) → suits f (kind_of v) ≡ true → (NoNumeral g v f → ⊥) → field_starred g f (field_width f k) v ≡ false
not_starred g f k v s none = go (field_starred g f (field_width f k) v) refl
  where
    go : (b : Bool) → field_starred g f (field_width f k) v ≡ b → field_starred g f (field_width f k) v ≡ false
    go true e = absurd (none ((starred_none g f k v s).0 e))
    go false e = e

shows : (area : List ℕ) (g : Settings) (f : Field ℕ) (k : Kind) (v : Value) → suits f (kind_of v) ≡ true → numeric f ≡ true → (NoNumeral g v f → ⊥)
    → Shows g v (field_characters area g f (field_width f k) v) f
unfolding field_characters field_starred
shows area g (Field.I w) k (value.Integer n) s e none =
    let u = fields.unstarred_is_numeral g.signs Numeric.I w n (not_starred g (Field.I w) k (value.Integer n) s none) in
    Shows.integer_shown u.0 refl u.1 u.2
shows area g (Field.I w) k (value.Decimal x) s e none = no_way s
shows area g (Field.I w) k (value.Logical b) s e none = no_way s
shows area g (Field.I w) k (value.Text t) s e none = no_way s
shows area g (Field.F w d) k (value.Integer n) s e none = no_way s
shows area g (Field.F w d) k (value.Decimal x) s e none =
    let r : ℤ = rounded_units x.units x.places d in
    let u = fields.unstarred_is_numeral g.signs (Numeric.F d) w r (not_starred g (Field.F w d) k (value.Decimal x) s none) in
    Shows.decimal_shown u.0 refl ((rounded_is x.units x.places d r).1 refl) u.1 u.2
shows area g (Field.F w d) k (value.Logical b) s e none = no_way s
shows area g (Field.F w d) k (value.Text t) s e none = no_way s
shows area g (Field.L w) k v s e none = no_way e
shows area g Field.A k v s e none = no_way e
shows area g (Field.Aw w) k v s e none = no_way e

-- ---- a placement, its field having an element of its kind

suited_value : (vs : List Value) {i : ℕ} {f : Field ℕ} {w : ℕ} → Suited (map kind_of vs) i f w → suits f (kind_of (value_at vs i)) ≡ true
suited_value vs {i} {f} s = ap (suits f) (sym (get_or-map kind_of vs i zero_value)) ∙ s.suited

pub field_stars : (area : List ℕ) (g : Settings) (vs : List Value) (i : ℕ) (f : Field ℕ) (w : ℕ) → Suited (map kind_of vs) i f w → numeric f ≡ true
    → (field_characters area g f w (value_at vs i) ≡ replicate w asterisk) ↔ NoNumeral g (value_at vs i) f
field_stars area g vs i f w s e = rw s.wide (stars_none area g f (get_or (map kind_of vs) i integer) (value_at vs i) (suited_value vs s) e)

pub field_shows : (area : List ℕ) (g : Settings) (vs : List Value) (i : ℕ) (f : Field ℕ) (w : ℕ) → Suited (map kind_of vs) i f w → numeric f ≡ true → (NoNumeral g (value_at vs i) f → ⊥)
    → Shows g (value_at vs i) (field_characters area g f w (value_at vs i)) f
field_shows area g vs i f w s e none = rw s.wide (shows area g f (get_or (map kind_of vs) i integer) (value_at vs i) (suited_value vs s) e none)

field_starred_lem : (g : Settings) (vs : List Value) (i : ℕ) (f : Field ℕ) (w : ℕ) → Suited (map kind_of vs) i f w → (field_starred g f w (value_at vs i) ≡ true) ↔ NoNumeral g (value_at vs i) f
field_starred_lem g vs i f w s = rw s.wide (starred_none g f (get_or (map kind_of vs) i integer) (value_at vs i) (suited_value vs s))

abbrev SuitedAt : List Value → Placement → Type 0
SuitedAt vs p = (i : ℕ) (f : Field ℕ) → p.what ≡ element i f → Suited (map kind_of vs) i f p.width

-- it is starred exactly when it has a field that no numeral can fill
starred_so : (vs : List Value) (p : Placement) → SuitedAt vs p → (is_starred vs p ≡ true) ↔ Unrepresentable vs p
starred_so vs p s = (go p.what refl, back)
  where
    go : (what : What) → p.what ≡ what → starred_of vs p.settings p.width what ≡ true → Unrepresentable vs p
    go (element i f) q e = record { i = i; f = f; is = q; none = (field_starred_lem p.settings vs i f p.width (s i f q)).0 e }
    go (literal cs) q e = no_way e

    back : Unrepresentable vs p → is_starred vs p ≡ true
    back u = ap (starred_of vs p.settings p.width) u.is ∙ (field_starred_lem p.settings vs u.i u.f p.width (s u.i u.f u.is)).1 u.none

-- ---- the fields of a walk

-- the starred number counts them
count_one : (P : Placement → Type 0) (p : Placement) (t : Trace) (k : ℕ) (b : Bool) → (b ≡ true) ↔ P p → Counted P t k → Counted P (put p t) (cond b 1 0 + k)
count_one P p t k true s c = subst (Counted P (put p t)) (omega arith) (Counted.counts (s.0 refl) c)
count_one P p t k false s c = subst (Counted P (put p t)) (omega arith) (Counted.passes (λ u. no_way (s.1 u)) c)

pub counted : (vs : List Value) (t : Trace) → ((p : Placement) → In p t → SuitedAt vs p) → Counted (Unrepresentable vs) t (starred_in vs t)
unfolding starred_in
counted vs (put p t) s =
    count_one (Unrepresentable vs) p t (starred_in vs t) (is_starred vs p) (starred_so vs p (s p here)) (counted vs t (λ q m. s q (there m)))
counted vs (done n) s = Counted.ends
counted vs (stopped why) s = Counted.refused
