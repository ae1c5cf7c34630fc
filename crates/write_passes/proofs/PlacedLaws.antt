-- What writing puts into the columns of a walk: its length, and what an accepted walk says of its values.
-- Assumes nothing.
use mathlib.Core.Path.{◌≡◌, refl, sym, ◌∙◌}
use mathlib.Core.Bool.{Bool, true, false, cond}
use mathlib.Core.List.{List}
use Prim.Native.Nat.{ℕ}
use native.Mathlib.Omega.{arith}
use lib.ListN.{length}
use Rattle.number.specs.Rounding.{rounded_units}
use Rattle.settings.specs.declared.Settings.{Settings}
use Rattle.field_written.specs.Numeral.{Numeric}
use Rattle.field_written.proofs.Promises.{field_length}
use Rattle.field_written.proofs.Letters.{length_logical, length_text}
use Rattle.format_items.specs.Items.{Field}
use Rattle.format_items.specs.Met.{Met}
use Rattle.format_items.specs.MetRanges.{MetWithin}
use Rattle.list_elements.specs.Elements.{Kind, text_bytes}
use Rattle.list_elements.specs.declared.Value.{Value}
use Rattle.sheet_walk.specs.Steps.{What, element, literal, Placement, field_width}
use Rattle.sheet_walk.specs.Walk.{Sheet, Trace, put, done, stopped, walk}
use Rattle.sheet_walk.specs.Columns.{In, here, there}
use Rattle.sheet_walk.specs.Promises.{Walkable, EndsWith}
use Rattle.sheet_walk.specs.declared.Refusal.{Refusal}
use Rattle.sheet_walk.specs.declared.Refusal.TheVariants.{TooLarge}
use Rattle.sheet_walk.proofs.Covering.{literals_wide, ends_put, ends_done, ends_stopped}
use Rattle.sheet_walk.proofs.Promises.{elements_suited}
use Rattle.write_passes.specs.Placed.{integer_of, decimal_of, logical_of, span_of, field_characters, field_too_large, value_at, characters_of, characters, Judged, accepted, refused, judged_at, judged}
use Rattle.sheet_walk.proofs.FieldRanges.{fields_within}

-- ---- as many characters as columns

pub field_long : (area : List ℕ) (g : Settings) (f : Field ℕ) (k : Kind) (w : ℕ) (v : Value) → MetWithin (Met.field f) → w ≡ field_width f k → length (field_characters area g f w v) ≡ w
unfolding field_characters
field_long area g (Field.I u) k w v m e = field_length g.signs Numeric.I w (integer_of v)
field_long area g (Field.F u d) k w v m e = field_length g.signs (Numeric.F d) w (rounded_units (decimal_of v).units (decimal_of v).places d)
field_long area g (Field.L u) k w v m e = length_logical w (logical_of v) (omega (arith, m.0))
field_long area g Field.A k w v m e = length_text w (text_bytes area (span_of v))
field_long area g (Field.Aw u) k w v m e = length_text w (text_bytes area (span_of v))

pub characters_long : (area : List ℕ) (vs : List Value) (h : Sheet) → Walkable h → (p : Placement) → In p (walk h) → length (characters area vs p) ≡ p.width
characters_long area vs h w p m = go p.what refl
  where
    go : (what : What) → p.what ≡ what → length (characters_of area vs p.settings p.width what) ≡ p.width
    go (element i f) e =
        let s = elements_suited h p m i f e in
        field_long area p.settings f _ p.width (value_at vs i) (fields_within h w p m i f e) s.wide
    go (literal cs) e = sym (literals_wide h p m cs e)

-- ---- an accepted walk

judged_clash : {n : ℕ} {why : Refusal} → refused why ≡ accepted n → ⊥
judged_clash e = let z : ◌≡◌ {A = ℕ} 0 1 = cc in omega arith

-- a test that refuses where it holds
pub not_refused : (b : Bool) (why : Refusal) (rest : Judged) (n : ℕ) → cond b (refused why) rest ≡ accepted n → (b ≡ false) × (rest ≡ accepted n)
not_refused true why rest n e = absurd (judged_clash e)
not_refused false why rest n e = (refl, e)

pub judged_rest : (vs : List Value) (what : What) (rest : Judged) (n : ℕ) → judged_at vs what rest ≡ accepted n → rest ≡ accepted n
judged_rest vs (element i f) rest n e = (not_refused (field_too_large f (value_at vs i)) (TooLarge i) rest n e).1
judged_rest vs (literal cs) rest n e = e

-- it ends, with its records
pub judged_ends : (vs : List Value) (t : Trace) (n : ℕ) → judged vs t ≡ accepted n → EndsWith n t
unfolding judged
judged_ends vs (put p t) n e = EndsWith.there (judged_ends vs t n (judged_rest vs p.what (judged vs t) n e))
judged_ends vs (done m) n e = let q : m ≡ n = cc in rw q EndsWith.here
judged_ends vs (stopped why) n e = absurd (judged_clash e)

-- a walk that ends, with no value too large, is accepted
pub judged_accepts : (vs : List Value) (t : Trace) (n : ℕ) → EndsWith n t → ((p : Placement) → In p t → (i : ℕ) (f : Field ℕ) → p.what ≡ element i f → field_too_large f (value_at vs i) ≡ false) → judged vs t ≡ accepted n
unfolding judged
judged_accepts vs (put p t) n e small = go p.what refl ∙ judged_accepts vs t n (ends_put e) (λ q m. small q (there m))
  where
    go : (what : What) → p.what ≡ what → judged_at vs what (judged vs t) ≡ judged vs t
    go (element i f) q = rw (small p here i f q)
    go (literal cs) q = refl
judged_accepts vs (done m) n e small = rw (ends_done e)
judged_accepts vs (stopped why) n e small = absurd (ends_stopped e)
