use Rattle.std.proofs.Common.{rules, ◌≡◌}
use mathlib.Core.Logic.{◌≢◌}
use borrow.Author.Tests.{tests}
use Rattle.std.proofs.lemmas.Bool.{MatchBool-at_true}
use Rattle.std.proofs.lemmas.Iterator.{YieldsList-from_slice, cases_from_all}
use Rattle.std.proofs.lemmas.Iterator.Search.{true_from_All}
use Rattle.std.proofs.lemmas.List.Elements.{All-from_all_within}
use Rattle.case_lines.specs.declared.marks.TheConstants.{MARK}
use Rattle.case_lines.proofs.marks.is_marked.Goals as goal

-- (The check finds this alone. It stands here so that the wrong version `only_the_first_byte` is refused by a fact.)
pub returns : goal.returns
returns c =
    let e = cases_from_all _ _ _ (λ x. x ≡ MARK) (λ x. x ≢ MARK) c.all.ensures.ran (YieldsList-from_slice c.args.bytes.now c.iter.ensures.rest) (λ x q k. search (rules, tests)) (λ x q k. search (rules, tests)) in
    (λ t. All-from_all_within (λ x. x ≡ MARK) _ (MatchBool-at_true _ _ t e), true_from_All (λ x. x ≡ MARK) (λ x. x ≢ MARK) _ _ (λ x p n. n p) e)
