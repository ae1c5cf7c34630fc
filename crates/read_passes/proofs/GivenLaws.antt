-- The kind of what a field gives.
-- Assumes nothing.
use mathlib.Core.Path.{◌≡◌, refl, ap, ◌∙◌}
use mathlib.Core.Bool.{Bool, true, false, cond}
use mathlib.Core.List.{List}
use Prim.Native.Nat.{ℕ}
use native.Mathlib.Omega.{arith}
use Rattle.field_written.specs.Numeral.{Numeric}
use Rattle.field_read.specs.Read.{read_field}
use Rattle.field_read.specs.LogicalRead.{logical_read}
use Rattle.field_read.specs.TextRead.{text_readable, text_read}
use Rattle.std.specs.Prelude.{Option, Some, None}
use Rattle.field_read.specs.declared.Number.{Number}
use Rattle.field_read.proofs.Promises.{text_read_length}
use Rattle.format_items.specs.Items.{Field}
use Rattle.buffer.proofs.Tests.{no_way}
use Rattle.list_elements.specs.Elements.{Kind, text_length}
use Rattle.list_elements.specs.Elements as kind
use Rattle.list_elements.specs.Contents.{Content, text, content_kind}
use Rattle.sheet_walk.specs.Steps.{suits, is_integer, is_decimal, is_logical, is_text}
use Rattle.read_passes.specs.Given.{gives, nothing, integer_given, decimal_given, logical_given, text_given, field_gives}

-- nothing is not something
pub no_content : {P : Type 0} {c : Content} → nothing ≡ gives c → P
no_content e = let z : ◌≡◌ {A = ℕ} 0 1 = cc in absurd (omega arith)

-- what is given is the content
same_kind : {b c : Content} → gives b ≡ gives c → content_kind c ≡ content_kind b
same_kind e = cc

-- ---- by the field

integer_kind_lem : (r : Option Number) (c : Content) → integer_given r ≡ gives c → content_kind c ≡ kind.integer
integer_kind_lem (Some n) c e = same_kind e
integer_kind_lem None c e = no_content e

decimal_kind_lem : (r : Option Number) (c : Content) → decimal_given r ≡ gives c → content_kind c ≡ kind.decimal
decimal_kind_lem (Some n) c e = same_kind e
decimal_kind_lem None c e = no_content e

logical_kind_lem : (r : Option Bool) (c : Content) → logical_given r ≡ gives c → content_kind c ≡ kind.logical
logical_kind_lem (Some b) c e = same_kind e
logical_kind_lem None c e = no_content e

text_kind_lem : (m : ℕ) (t : List ℕ) (c : Content) → text_given m t ≡ gives c → content_kind c ≡ kind.text m
text_kind_lem m t c = go (text_readable t)
  where
    go : (b : Bool) → cond b (gives (text (text_read m t))) nothing ≡ gives c → content_kind c ≡ kind.text m
    go true e = same_kind e ∙ ap kind.text (text_read_length m t)
    go false e = no_content e

-- ---- the kind that suits it

pub is_integer_lem : (k : Kind) → is_integer k ≡ true → kind.integer ≡ k
is_integer_lem kind.integer e = refl
is_integer_lem kind.decimal e = no_way e
is_integer_lem kind.logical e = no_way e
is_integer_lem (kind.text m) e = no_way e

pub is_decimal_lem : (k : Kind) → is_decimal k ≡ true → kind.decimal ≡ k
is_decimal_lem kind.integer e = no_way e
is_decimal_lem kind.decimal e = refl
is_decimal_lem kind.logical e = no_way e
is_decimal_lem (kind.text m) e = no_way e

pub is_logical_lem : (k : Kind) → is_logical k ≡ true → kind.logical ≡ k
is_logical_lem kind.integer e = no_way e
is_logical_lem kind.decimal e = no_way e
is_logical_lem kind.logical e = refl
is_logical_lem (kind.text m) e = no_way e

pub is_text_lem : (k : Kind) → is_text k ≡ true → kind.text (text_length k) ≡ k
is_text_lem kind.integer e = no_way e
is_text_lem kind.decimal e = no_way e
is_text_lem kind.logical e = no_way e
is_text_lem (kind.text m) e = refl

-- a field gives contents of the kind that suits it
pub given_kind : (f : Field ℕ) (k : Kind) (t : List ℕ) (c : Content) → suits f k ≡ true → field_gives f k t ≡ gives c → content_kind c ≡ k
unfolding field_gives
given_kind (Field.I w) k t c s e = integer_kind_lem (read_field Numeric.I t) c e ∙ is_integer_lem k s
given_kind (Field.F w d) k t c s e = decimal_kind_lem (read_field (Numeric.F d) t) c e ∙ is_decimal_lem k s
given_kind (Field.L w) k t c s e = logical_kind_lem (logical_read t) c e ∙ is_logical_lem k s
given_kind Field.A k t c s e = text_kind_lem (text_length k) t c e ∙ is_text_lem k s
given_kind (Field.Aw w) k t c s e = text_kind_lem (text_length k) t c e ∙ is_text_lem k s
