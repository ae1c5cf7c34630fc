use native.Mathlib.Omega.{arith}
use Rattle.format_items.proofs.MetLaws.{met_is_size}
use Rattle.format_grammar.proofs.Promises.{outcome_long}
use Rattle.format_load.proofs.LoadLaws.{run_sound, run_within, run_returns}
use Rattle.format_load.proofs.load.load_into.Goals as goal

pub returns-then-format-gt-LONGEST_FORMAT : goal.returns-then-format-gt-LONGEST_FORMAT
returns-then-format-gt-LONGEST_FORMAT c = outcome_long _ c.if-format-gt-LONGEST_FORMAT.true

pub returns : goal.returns
returns c =
    let i = c.in_ok-items.ensures in
    let r = c.unroll.ensures.words _ i.c i.items i.holds in (
      omega (arith, c.unroll.ensures.count _ i.c i.items i.holds, met_is_size i.items, i.sized, c.if-run-items.false, c.unroll.auto.run),
      record { held = record { items = i.items; accepts = i.accepts; mean = r.mean; return_to = run_returns i r (c.unroll.ensures.returns _ i.c i.items i.holds) }; sound = run_sound i r; within = run_within i r },
    )
