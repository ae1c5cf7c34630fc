use Rattle.std.proofs.Common.{◌≡◌, refl, sym, ap, ◌∙◌, ◌+◌, ◌<◌, length, get_or, arith, rules}
use Rattle.std.specs.Prelude.{Ok, Err}
use Rattle.format_items.specs.Items.{Field}
use Rattle.format_words.specs.Words.{met_of}
use Rattle.sheet_walk.specs.Steps.{element, cover_step}
use Rattle.sheet_walk.specs.Given.{records_of}
use Rattle.sheet_walk.specs.Followed.{CoversAs}
use Rattle.sheet_walk.proofs.Keeping.{keeps_own, keeps_text}
use Rattle.sheet_walk.proofs.FieldSteps.{field_unsuited, field_suited, covers_narrow, covered_as, refused_as}
use Rattle.sheet_walk.proofs.walk.Walk.field.Goals as goal
use Rattle.sheet_walk.proofs.walk.Walk.field.Goals.{In-Some, In_ok-at}

-- the element that is next
some : (c : In-Some) → c.args.self.now.state.taken < length c.args.self.now.elements.now
some c = search rules

is : (c : In-Some) → get_or c.args.self.now.elements.now c.args.self.now.state.taken c.in-Some.element.now ≡ c.in-Some.element.now
is c = search rules

pub returns-in_default-field_width-clause-answers : goal.returns-in_default-field_width-clause-answers
returns-in_default-field_width-clause-answers c =
    let a = (goal.at.returns-in_default-field_width-clause-answers c).In-Some in
    λ t f e.
    field_unsuited (records_of c.args.self.now.records) c.args.self.now.state c.args.self.now.elements.now t c.word-item.result f (ap (met_of t) c.word-item.ensures ∙ e) c.in-Some.element.now (some a) (is a)
    (sym c.field_width.ensures ∙ c.in_default-field_width.is)

pub returns-in_err-at-clause-answers : goal.returns-in_err-at-clause-answers
returns-in_err-at-clause-answers c =
    let a = (goal.at.returns-in_err-at-clause-answers c).In-Some in
    let why = c.in_err-at.field-0.0 in
    let r : c.from_residual.result ≡ Err why = search rules in
    λ t f e.
    let rs = records_of c.args.self.now.records in
    let i = c.args.self.now.state.taken in
    let s = field_suited rs c.args.self.now.state c.args.self.now.elements.now t c.word-item.result f (ap (met_of t) c.word-item.ensures ∙ e) c.in-Some.element.now (some a) (is a) (sym c.field_width.ensures ∙ c.in-Some-field_width.is) in
    let k : CoversAs rs (cover_step rs c.args.self.now.state (element i f) c.in-Some-field_width.width (i + 1)) (Err why) c.cover.new.self.state = rw c.in_err-at.was at (c.cover.ensures.covers (element i f)) in
    rw (s.1, r) (refused_as rs f c.args.self.now.state _ why c.cover.new.self.state k)

pub returns-in_default-item : goal.returns-in_default-item
returns-in_default-item c =
    let a = (goal.at.returns-in_default-item c).In-Some in
    record {
      same = c.cover.ensures.same;
      index = c.cover.ensures.index;
      answers = λ t f e.
          let rs = records_of c.args.self.now.records in
          let i = c.args.self.now.state.taken in
          let s = field_suited rs c.args.self.now.state c.args.self.now.elements.now t c.word-item.result f (ap (met_of t) c.word-item.ensures ∙ e) c.in-Some.element.now (some a) (is a) (sym c.field_width.ensures ∙ c.in-Some-field_width.is) in
          let k : CoversAs rs (cover_step rs c.args.self.now.state (element i f) c.in-Some-field_width.width (i + 1)) (Ok c.in_ok-at.at) c.cover.new.self.state = rw c.in_ok-at.was at (c.cover.ensures.covers (element i f)) in
          rw s.1 (covered_as rs c.args.self.now.state (element i f) c.in-Some-field_width.width (i + 1) f c.cover.new.self.state (record { at = c.in_ok-at.at; word = c.args.word; settings = c.args.self.now.state.settings }) k refl refl
          (rw s.0 (keeps_own t c.args.word f _ e (λ z. c.in_default-item.not-A (c.word-item.ensures ∙ z)))));
    }

pub overflow_cast-width : goal.overflow_cast-width
overflow_cast-width c =
    let s = c.args.self.now in
    let k : CoversAs (records_of s.records) (cover_step (records_of s.records) s.state (element 0 Field.A) c.in-Some-field_width.width (s.state.taken + 1)) (Ok c.in_ok-at.at) c.cover.new.self.state = rw c.in_ok-at.was at (c.cover.ensures.covers (element 0 Field.A)) in
    let n = covers_narrow (records_of s.records) s.state (element 0 Field.A) c.in-Some-field_width.width (s.state.taken + 1) c.in_ok-at.at c.cover.new.self.state k in
    omega (arith, n, s.records.narrow, s.from)

pub returns-clause-answers : goal.returns-clause-answers
returns-clause-answers c =
    let a = (goal.at.returns-clause-answers c).In-Some in
    λ t f e.
    let rs = records_of c.args.self.now.records in
    let i = c.args.self.now.state.taken in
    let s = field_suited rs c.args.self.now.state c.args.self.now.elements.now t c.word-item.result f (ap (met_of t) c.word-item.ensures ∙ e) c.in-Some.element.now (some a) (is a) (sym c.field_width.ensures ∙ c.in-Some-field_width.is) in
    let k : CoversAs rs (cover_step rs c.args.self.now.state (element i f) c.in-Some-field_width.width (i + 1)) (Ok c.in_ok-at.at) c.cover.new.self.state = rw c.in_ok-at.was at (c.cover.ensures.covers (element i f)) in
    rw s.1 (covered_as rs c.args.self.now.state (element i f) c.in-Some-field_width.width (i + 1) f c.cover.new.self.state (record { at = c.in_ok-at.at; word = c.of-word.result; settings = c.args.self.now.state.settings }) k refl refl
    (keeps_text t c.args.word c.of-word.result f e (sym c.word-item.ensures ∙ c.in-A.is) c.of-word.ensures))
