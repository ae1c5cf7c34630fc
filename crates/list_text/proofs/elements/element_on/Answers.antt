use mathlib.Core.Path.{◌≡◌, ap, ◌∙◌}
use native.Mathlib.Omega.{arith}
use lib.ListN.{get_or, length-drop}
use Rattle.list_text.specs.ElementLines.{integer_line, decimal_line, logical_line}
use Rattle.list_text.proofs.ElementLaws.{part_rest, element_unblank, element_short, element_integer, element_decimal, element_logical, element_text, element_other}
use Rattle.list_text.proofs.elements.element_on.Goals.{In-32}
use Rattle.list_text.proofs.elements.element_on.Goals as goal

blank : (c : In-32) → get_or c.args.line.now 1 0 ≡ 32
blank c = omega arith

pub returns-in_default : goal.returns-in_default
returns-in_default c = element_short c.args.start c.args.line.now c.in_default.len_below

pub returns-in_default-2 : goal.returns-in_default-2
returns-in_default-2 c = element_unblank c.args.start c.args.line.now (λ e. omega arith)

pub returns-in-73 : goal.returns-in-73
returns-in-73 c = c.integer_line.ensures ∙ ap integer_line (part_rest c.args.line.now 2) ∙ element_integer _ _ (blank (goal.at.returns-in-73 c).In-32) c.in-73.is

pub returns-in-68 : goal.returns-in-68
returns-in-68 c = c.decimal_line.ensures ∙ ap decimal_line (part_rest c.args.line.now 2) ∙ element_decimal _ _ (blank (goal.at.returns-in-68 c).In-32) (λ e. omega arith) c.in-68.is

pub returns-in-76 : goal.returns-in-76
returns-in-76 c = c.logical_line.ensures ∙ ap logical_line (part_rest c.args.line.now 2) ∙ element_logical _ _ (blank (goal.at.returns-in-76 c).In-32) (λ e. omega arith) (λ e. omega arith) c.in-76.is

pub returns-in-65 : goal.returns-in-65
returns-in-65 c = rw (part_rest c.args.line.now 2, length-drop) (element_text _ _ (blank (goal.at.returns-in-65 c).In-32) (λ e. omega arith) (λ e. omega arith) (λ e. omega arith) c.in-65.is)

pub returns-in_default-letter : goal.returns-in_default-letter
returns-in_default-letter c = element_other _ _ (blank (goal.at.returns-in_default-letter c).In-32) (λ e. omega arith) (λ e. omega arith) (λ e. omega arith) (λ e. omega arith)
