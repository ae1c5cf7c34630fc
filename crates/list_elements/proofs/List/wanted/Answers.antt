use Rattle.std.proofs.Common.{rules}
use Rattle.list_elements.specs.Limits.{may_be_wanted}
use Rattle.list_elements.proofs.List.wanted.Goals as goal

pub returns : goal.returns
returns c = c.checked.ensures may_be_wanted (λ v b p. search rules)
