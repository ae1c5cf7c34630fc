-- A run that was unrolled from the entries of an accepted format.
-- Assumes nothing.
use mathlib.Core.Path.{◌≡◌}
use mathlib.Core.List.{List, map}
use Prim.Native.Nat.{ℕ}
use native.Mathlib.Omega.{arith}
use lib.ListN.{length, drop}
use Rattle.format_items.specs.Met.{met, return_part, return_index}
use Rattle.format_items.specs.MetRanges.{AllMetWithin}
use Rattle.format_items.proofs.MetLaws.{return_index_is}
use Rattle.format_grammar.proofs.Promises.{accepts_exactly, met_in_range}
use Rattle.format_words.specs.Words.{met_in, RunWords}
use Rattle.format_words.specs.declared.packed.Packed.{Packed}
use Rattle.format_words.specs.declared.Entry.{Entry}
use Rattle.format_run.specs.Runs.{AreMet}
use Rattle.format_load.specs.ItemsChecked.{ItemsHeld}

module _ {s : List ℕ} {a : List Entry} {t : List ℕ} {n k : ℕ} (i : ItemsHeld s a t n k) where
  items_within : AllMetWithin (met i.items)
  items_within = (met_in_range s i.items ((accepts_exactly s i.items).0 i.accepts)).0

  module _ {words : List Packed} (r : AreMet t i.c words (met i.items)) where
    pub run_sound : RunWords (length t) words
    run_sound = λ j d g. omega (arith, i.within, r.sound j d g)

    pub run_within : AllMetWithin (map (met_in t) words)
    run_within = rw r.mean items_within

    module _ {back : ℕ} (e : back ≡ return_index i.items) where
      pub run_returns : drop back (map (met_in t) words) ≡ met (return_part i.items)
      run_returns = rw (r.mean, e) (return_index_is i.items)
