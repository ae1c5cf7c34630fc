use mathlib.Core.Path.{refl, ap, ◌∙◌}
use Rattle.std.proofs.Common.{Bor}
use mathlib.Core.List.{List}
use Prim.Native.Nat.{ℕ}
use Rattle.list_text.proofs.LineLaws.{rest_of}
use Rattle.list_text.proofs.lines.split_line.Goals as goal

pub returns-clause-rest : goal.returns-clause-rest
returns-clause-rest c = ap (λ (b : Bor (List ℕ)). b.now) c.unwrap_or.ensures ∙ rest_of c.args.text.now c.first_line-line.ensures c.get.result c.get.ensures.lookup _ refl
