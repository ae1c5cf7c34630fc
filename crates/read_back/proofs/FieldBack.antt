-- One field: what is written of a value that fits it gives back the value's shown value, or nothing where it is starred.
-- Assumes nothing.
use mathlib.Core.Path.{◌≡◌, refl, sym, ap, ◌∙◌}
use mathlib.Core.Bool.{Bool, true, false, cond}
use mathlib.Core.List.{List}
use Prim.Native.Nat.{ℕ}
use native.Mathlib.Omega.{arith}
use lib.IntN.{ℤ}
use lib.ListN.{length, replicate}
use Rattle.buffer.specs.Characters.{asterisk, all_printable}
use Rattle.number.specs.Rounding.{rounded_units, too_large}
use Rattle.settings.specs.declared.Settings.{Settings}
use Rattle.field_written.specs.Numeral.{Numeric}
use Rattle.field_written.specs.Written.{field, decimal_field, put_decimal}
use Rattle.field_written.specs.TextField.{text_field}
use Rattle.field_written.proofs.Promises.{starred_is}
use Rattle.field_read.specs.Read.{read_field, read_refusal, Gives}
use Rattle.field_read.specs.TextRead.{shown_text}
use Rattle.std.specs.Prelude.{Option, Some, None}
use Rattle.field_read.specs.declared.Number.{Number}
use Rattle.field_read.proofs.Promises.{integer_reads_back, decimal_reads_back, stars_refused, logical_reads_back, text_reads_back, text_read_length}
use Rattle.format_items.specs.Items.{Field}
use Rattle.format_items.specs.Met.{Met}
use Rattle.format_items.specs.MetRanges.{MetWithin}
use Rattle.list_elements.specs.Elements as kind
use Rattle.list_elements.specs.Elements.{Kind, kind_of, text_bytes}
use Rattle.list_elements.specs.Limits.{within_limits}
use Rattle.list_elements.specs.Contents.{integer, decimal, text, content_kind, content_of}
use Rattle.list_elements.specs.declared.Decimal.{Decimal}
use Rattle.list_elements.specs.declared.Text.{Text}
use Rattle.list_elements.specs.declared.Value.{Value}
use Rattle.list_elements.specs.declared.Value.TheVariants as value
use Rattle.list_elements.proofs.WithinLaws.{within_integer, within_text}
use Rattle.sheet_walk.specs.Steps.{suits, field_width}
use Rattle.write_passes.specs.Placed.{integer_of, decimal_of, field_characters, field_starred, field_too_large}
use Rattle.buffer.proofs.Tests.{no_way}
use Rattle.sheet_write.specs.Promises.{numeric}
use Rattle.read_passes.specs.Given.{gives, nothing, integer_given, decimal_given, text_given, field_gives, shown}

-- ---- a value that fits a field w columns wide

pub record Fits (area : List ℕ) (v : Value) (f : Field ℕ) (w : ℕ) : Type 0 where
  pub suited : suits f (kind_of v) ≡ true
  pub wide : w ≡ field_width f (kind_of v)
  pub ranges : MetWithin (Met.field f)
  pub good : within_limits area v ≡ true
  pub small : field_too_large f v ≡ false

-- 'Integer suits I, decimal F, logical L, text A.'
data Suiting : Field ℕ → Value → Type 0 where
  integer-I : {n : ℤ} {w : ℕ} → Suiting (Field.I w) (value.Integer n)
  decimal-F : {x : Decimal} {w d : ℕ} → Suiting (Field.F w d) (value.Decimal x)
  logical-L : {b : Bool} {w : ℕ} → Suiting (Field.L w) (value.Logical b)
  text-A : {t : Text} → Suiting Field.A (value.Text t)
  text-Aw : {t : Text} {w : ℕ} → Suiting (Field.Aw w) (value.Text t)

suiting : (f : Field ℕ) (v : Value) → suits f (kind_of v) ≡ true → Suiting f v
suiting (Field.I w) (value.Integer n) e = Suiting.integer-I
suiting (Field.I w) (value.Decimal x) e = no_way e
suiting (Field.I w) (value.Logical b) e = no_way e
suiting (Field.I w) (value.Text t) e = no_way e
suiting (Field.F w d) (value.Integer n) e = no_way e
suiting (Field.F w d) (value.Decimal x) e = Suiting.decimal-F
suiting (Field.F w d) (value.Logical b) e = no_way e
suiting (Field.F w d) (value.Text t) e = no_way e
suiting (Field.L w) (value.Integer n) e = no_way e
suiting (Field.L w) (value.Decimal x) e = no_way e
suiting (Field.L w) (value.Logical b) e = Suiting.logical-L
suiting (Field.L w) (value.Text t) e = no_way e
suiting Field.A (value.Integer n) e = no_way e
suiting Field.A (value.Decimal x) e = no_way e
suiting Field.A (value.Logical b) e = no_way e
suiting Field.A (value.Text t) e = Suiting.text-A
suiting (Field.Aw w) (value.Integer n) e = no_way e
suiting (Field.Aw w) (value.Decimal x) e = no_way e
suiting (Field.Aw w) (value.Logical b) e = no_way e
suiting (Field.Aw w) (value.Text t) e = Suiting.text-Aw

-- ---- what an answer of reading gives

integer_given_lem : (r : Option Number) (u : ℤ) (p : ℕ) → Gives r u p → integer_given r ≡ gives (integer u)
integer_given_lem (Some n) u p g = ap (λ (z : ℤ). gives (integer z)) g.units
integer_given_lem None u p g = absurd (omega (arith, g.accepted))

decimal_given_lem : (r : Option Number) (u : ℤ) (p : ℕ) → Gives r u p → decimal_given r ≡ gives (decimal u p)
decimal_given_lem (Some n) u p g =
    let a : n.units ≡ u = g.units in
    let b : n.places ≡ p = g.places_read_lem in
    rw (a, b)
decimal_given_lem None u p g = absurd (omega (arith, g.accepted))

integer_nothing : (r : Option Number) → read_refusal r ≡ 12 → integer_given r ≡ nothing
integer_nothing (Some n) e = absurd (omega arith)
integer_nothing None e = refl

decimal_nothing : (r : Option Number) → read_refusal r ≡ 12 → decimal_given r ≡ nothing
decimal_nothing (Some n) e = absurd (omega arith)
decimal_nothing None e = refl

-- ---- where it is not starred

-- a text of the length m
text_given_lem : (m w : ℕ) (bytes : List ℕ) → length bytes ≡ m → all_printable bytes ≡ true → text_given m (text_field w bytes) ≡ gives (text (shown_text w bytes))
text_given_lem m w bytes l p =
    let r = text_reads_back w bytes p in
    rw (r.0, ← l) (ap (λ (shows : List ℕ). gives (text shows)) r.1)

-- the field gives the shown value
given_back : (area : List ℕ) (g : Settings) {f : Field ℕ} {v : Value} (w : ℕ) → Suiting f v → Fits area v f w → field_starred g f w v ≡ false
    → field_gives f (kind_of v) (field_characters area g f w v) ≡ gives (shown f w (content_of area v))
unfolding field_gives field_characters field_too_large field_starred put_decimal
given_back area g w (Suiting.integer-I {n}) s e =
    integer_given_lem (read_field Numeric.I (field g.signs Numeric.I w n)) n 0 (integer_reads_back g.signs w n (within_integer area n s.good) e)
given_back area g w (Suiting.decimal-F {x} {d}) s e =
    let small : too_large x.units x.places d ≡ false = s.small in
    decimal_given_lem (read_field (Numeric.F d) (decimal_field g.signs w d x.units x.places)) (rounded_units x.units x.places d) d
    (decimal_reads_back g.signs w d x.units x.places (omega (arith, s.ranges.1)) (rw small) (rw (small, e)))
given_back area g w (Suiting.logical-L {b}) s e = rw (logical_reads_back w b (omega (arith, s.wide, s.ranges)))
given_back area g w (Suiting.text-A {t}) s e =
    let l = within_text area t s.good in
    text_given_lem t.len w (text_bytes area t) l.long l.printable
given_back area g w (Suiting.text-Aw {t}) s e =
    let l = within_text area t s.good in
    text_given_lem t.len w (text_bytes area t) l.long l.printable

-- ---- where it is starred

-- a starred field is numeric, and asterisks
pub starred_stars : (area : List ℕ) (g : Settings) (f : Field ℕ) (w : ℕ) (v : Value) → field_starred g f w v ≡ true → (numeric f ≡ true) × (field_characters area g f w v ≡ replicate w asterisk)
unfolding field_starred field_characters
starred_stars area g (Field.I u) w v e = (refl, (starred_is g.signs Numeric.I w (integer_of v)).0 e)
starred_stars area g (Field.F u d) w v e =
    (refl, (starred_is g.signs (Numeric.F d) w (rounded_units (decimal_of v).units (decimal_of v).places d)).0 e)
starred_stars area g (Field.L u) w v e = no_way e
starred_stars area g Field.A w v e = no_way e
starred_stars area g (Field.Aw u) w v e = no_way e

-- and the other way round
pub stars_starred : (area : List ℕ) (g : Settings) (f : Field ℕ) (w : ℕ) (v : Value) → numeric f ≡ true → field_characters area g f w v ≡ replicate w asterisk → field_starred g f w v ≡ true
unfolding field_starred field_characters
stars_starred area g (Field.I u) w v n e = (starred_is g.signs Numeric.I w (integer_of v)).1 e
stars_starred area g (Field.F u d) w v n e = (starred_is g.signs (Numeric.F d) w (rounded_units (decimal_of v).units (decimal_of v).places d)).1 e
stars_starred area g (Field.L u) w v n e = no_way n
stars_starred area g Field.A w v n e = no_way n
stars_starred area g (Field.Aw u) w v n e = no_way n

-- asterisks under a numeric field give nothing
stars_nothing : (f : Field ℕ) (k : Kind) (w : ℕ) → numeric f ≡ true → MetWithin (Met.field f) → w ≡ field_width f k → field_gives f k (replicate w asterisk) ≡ nothing
unfolding field_gives
stars_nothing (Field.I u) k w n m e =
    integer_nothing (read_field Numeric.I (replicate w asterisk)) (stars_refused Numeric.I w (omega (arith, m)))
stars_nothing (Field.F u d) k w n m e =
    decimal_nothing (read_field (Numeric.F d) (replicate w asterisk)) (stars_refused (Numeric.F d) w (omega (arith, m.0)))
stars_nothing (Field.L u) k w n m e = no_way n
stars_nothing Field.A k w n m e = no_way n
stars_nothing (Field.Aw u) k w n m e = no_way n

-- ---- in both cases

pub field_back : (area : List ℕ) (g : Settings) (f : Field ℕ) (v : Value) (w : ℕ) → Fits area v f w
    → field_gives f (kind_of v) (field_characters area g f w v) ≡ cond (field_starred g f w v) nothing (gives (shown f w (content_of area v)))
field_back area g f v w s = go (field_starred g f w v) refl
  where
    go : (b : Bool) → field_starred g f w v ≡ b → field_gives f (kind_of v) (field_characters area g f w v) ≡ cond b nothing (gives (shown f w (content_of area v)))
    go true e =
        let st = starred_stars area g f w v e in
        ap (field_gives f (kind_of v)) st.1 ∙ stars_nothing f (kind_of v) w st.0 s.ranges s.wide
    go false e = given_back area g w (suiting f v s.suited) s e

-- ---- the shown value is of the value's kind

length_shown : (w : ℕ) (bytes : List ℕ) → all_printable bytes ≡ true → length (shown_text w bytes) ≡ length bytes
length_shown w bytes p = ap length (sym (text_reads_back w bytes p).1) ∙ text_read_length (length bytes) (text_field w bytes)

shown_kind_of : (area : List ℕ) {f : Field ℕ} {v : Value} (w : ℕ) → Suiting f v → within_limits area v ≡ true → content_kind (shown f w (content_of area v)) ≡ kind_of v
shown_kind_of area w Suiting.integer-I g = refl
shown_kind_of area w Suiting.decimal-F g = refl
shown_kind_of area w Suiting.logical-L g = refl
shown_kind_of area w (Suiting.text-A {t}) g =
    let l = within_text area t g in
    ap kind.text (length_shown w (text_bytes area t) l.printable ∙ l.long)
shown_kind_of area w (Suiting.text-Aw {t}) g =
    let l = within_text area t g in
    ap kind.text (length_shown w (text_bytes area t) l.printable ∙ l.long)

pub shown_kind : (area : List ℕ) (f : Field ℕ) (v : Value) (w : ℕ) → Fits area v f w → content_kind (shown f w (content_of area v)) ≡ kind_of v
shown_kind area f v w s = shown_kind_of area w (suiting f v s.suited) s.good
