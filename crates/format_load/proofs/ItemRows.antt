-- Rows 3 to 5, from what the reader and the size say.
-- Assumes nothing.
use mathlib.Core.Path.{◌≡◌, sym, ap, ◌∙◌}
use mathlib.Core.List.{List}
use Prim.Native.Nat.{ℕ, ◌<◌, ◌≤◌}
use native.Mathlib.Omega.{arith}
use borrow.Author.Tests.{lt-ltb, le-ltb}
use lib.ListN.{length}
use Rattle.std.specs.Prelude.{Option, Some, None}
use Rattle.format_items.specs.Ranges.{numbers, first_outside}
use Rattle.format_items.specs.Size.{size}
use Rattle.format_grammar.specs.Reading.{wrong, reading}
use Rattle.format_grammar.specs.Check.{refused, check_size, check_range, outcome}
use Rattle.format_items.specs.declared.FormatRefusal.TheVariants.{Grammar, Range, Size}
use Rattle.format_items.proofs.RangeLaws.{all_within}
use Rattle.format_grammar.proofs.Promises.{outcome_short}
use Rattle.format_words.specs.declared.Entry.{Entry}
use Rattle.format_run.specs.Sizes.{capped}
use Rattle.format_read.specs.declared.Position.{Position}
use Rattle.format_read.specs.Whole.{ItemsRead}
use Rattle.format_load.specs.ItemsChecked.{ItemsHeld}

module _ (s : List ℕ) (short : length s ≤ 1024) where
  pub row_grammar : {p : ℕ} → reading s ≡ wrong p → outcome s ≡ refused (Grammar p)
  row_grammar e = outcome_short s short ∙ rw e

  module _ {a : List Entry} {t : List ℕ} {p : Position} (i : ItemsRead s a t p) where
    after_grammar : outcome s ≡ check_range (first_outside (numbers i.read)) i.read
    after_grammar = outcome_short s short ∙ rw i.is

    pub row_range : {q : ℕ} → p.outside ≡ Some q → outcome s ≡ refused (Range q)
    row_range {q} h = after_grammar ∙ ap (λ (f : Option ℕ). check_range f i.read) (sym i.outside_is ∙ h)

    module _ (h : p.outside ≡ None) where
      none_outside : first_outside (numbers i.read) ≡ None
      none_outside = sym i.outside_is ∙ h

      after_range : outcome s ≡ check_size i.read
      after_range = after_grammar ∙ rw none_outside

      pub row_size : (k : ℕ) → k ≡ capped (size i.read) → 4096 < k → outcome s ≡ refused Size
      row_size k e g = after_range ∙ rw (lt-ltb 4096 (size i.read) (omega arith))

      pub row_none : (k : ℕ) → k ≡ capped (size i.read) → k ≤ 4096 → length s ≤ length a → length s ≤ length t → ItemsHeld s a t p.entries k
      row_none k e g m f =
          record {
            items = i.read;
            accepts = after_range ∙ rw (le-ltb 4096 (size i.read) (omega arith));
            c = p.chars;
            holds = i.holds;
            some = omega (arith, i.few_entries);
            within = omega (arith, i.few_chars);
            ranges = all_within (numbers i.read) none_outside;
            sized = omega arith;
            small = g;
          }
