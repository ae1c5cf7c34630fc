use Rattle.std.proofs.Common.{◌≡◌, refl, sym, ap, ◌∙◌, arith, rules, take, drop}
use Rattle.std.specs.Prelude.{Err}
use Rattle.format_words.specs.Words.{met_of}
use Rattle.format_words.specs.declared.Word.TheVariants as word
use Rattle.sheet_walk.specs.Steps.{literal}
use Rattle.sheet_walk.specs.Followed.{sheet_of}
use Rattle.sheet_walk.proofs.Keeping.{keeps_literal}
use Rattle.sheet_walk.proofs.Following.{item_moves, item_refused, field_answers, literal_answers, literal_refused, X-step, T-step, slash_step, set_moves, same_as, tab_from, field_word, literal_at, literal_inside, field_at}
use Rattle.sheet_walk.proofs.walk.Walk.turn.Goals as goal

pub returns-in_err-skip-in-X : goal.returns-in_err-skip-in-X
returns-in_err-skip-in-X c =
    let w = c.args.self.now in
    let why = c.in_err-skip-in-X.field-0.0 in
    let r : c.from_residual.result ≡ Err why = search rules in
    rw r (item_refused w (word.X c.in-X.count) _ c.if-self.false (sym c.word.ensures ∙ c.in-X.is) why c.skip.new.self.state (X-step (sheet_of w).kinds (sheet_of w).records w.state c.from.ensures) c.in_err-skip-in-X.was c.skip.ensures.moves)

pub tab-requires : goal.tab-requires
tab-requires c = omega (arith, tab_from c.args.self.now _ c.if-self.false (sym c.word.ensures ∙ c.in-T.is), c.from-in-T.ensures)

pub returns-in_err-tab-in-T : goal.returns-in_err-tab-in-T
returns-in_err-tab-in-T c =
    let w = c.args.self.now in
    let why = c.in_err-tab-in-T.field-0.0 in
    let r : c.from_residual-in_err-tab-in-T.result ≡ Err why = search rules in
    rw r (item_refused w (word.T c.in-T.column) _ c.if-self.false (sym c.word.ensures ∙ c.in-T.is) why c.tab.new.self.state (T-step (sheet_of w).kinds (sheet_of w).records w.state c.from-in-T.ensures) c.in_err-tab-in-T.was c.tab.ensures.moves)

pub returns-in_err-next_record-in-Slash : goal.returns-in_err-next_record-in-Slash
returns-in_err-next_record-in-Slash c =
    let w = c.args.self.now in
    let why = c.in_err-next_record-in-Slash.field-0.0 in
    let r : c.from_residual-in_err-next_record-in-Slash.result ≡ Err why = search rules in
    rw r (item_refused w word.Slash _ c.if-self.false (sym c.word.ensures ∙ c.in-Slash.is) why c.next_record.new.self.state (slash_step (sheet_of w).kinds (sheet_of w).records w.state) c.in_err-next_record-in-Slash.was c.next_record.ensures.moves)

pub returns-in_err-at-in-Literal : goal.returns-in_err-at-in-Literal
returns-in_err-at-in-Literal c =
    let w = c.args.self.now in
    let s = c.cover.ensures.same in
    let is = sym c.word.ensures ∙ c.in-Literal.is in
    let why = c.in_err-at-in-Literal.field-0.0 in
    let r : c.from_residual-in_err-at-in-Literal.result ≡ Err why = search rules in
    rw r (literal_refused w (word.Literal c.in-Literal.start c.in-Literal.len) _ c.if-self.false is c.cover.new.self (same_as w c.cover.new.self s.run s.elements s.records) c.cover.ensures.index
    (literal_at w _ c.if-self.false is c.from-in-Literal.ensures) c.in_err-at-in-Literal.was (c.cover.ensures.covers (literal (take c.in-Literal.len (drop c.in-Literal.start w.run.chars.now)))))

pub returns-in-Literal : goal.returns-in-Literal
returns-in-Literal c =
    let w = c.args.self.now in
    let s = c.cover.ensures.same in
    let is = sym c.word.ensures ∙ c.in-Literal.is in
    let cs = take c.in-Literal.len (drop c.in-Literal.start w.run.chars.now) in
    let k = keeps_literal w.run.chars.now _ is (literal_inside w _ c.if-self.false is) in
    literal_answers w (word.Literal c.in-Literal.start c.in-Literal.len) _ c.if-self.false is c.cover.new.self (same_as w c.cover.new.self s.run s.elements s.records) c.cover.ensures.index cs refl
    (record { at = c.in_ok-at-in-Literal.at; word = _; settings = w.state.settings }) refl refl k.0 k.1 (literal_at w _ c.if-self.false is c.from-in-Literal.ensures) c.in_ok-at-in-Literal.was (c.cover.ensures.covers (literal cs))

pub returns-in_default : goal.returns-in_default
returns-in_default c =
    let w = c.args.self.now in
    let s = c.field.ensures.same in
    let t = w.run.chars.now in
    let is = sym c.word.ensures in
    let f = field_word t c.word.result c.in_default.not-X c.in_default.not-T c.in_default.not-Slash c.in_default.not-Literal c.in_default.not-Setting in
    field_answers w c.word.result _ c.if-self.false is c.field.new.self (same_as w c.field.new.self s.run s.elements s.records) c.field.ensures.index f.0 f.1
    c.field.result (field_at w _ f.1) (c.field.ensures.answers t f.0 (ap (met_of t) is ∙ f.1))

pub returns-in_ok-skip-in-X : goal.returns-in_ok-skip-in-X
returns-in_ok-skip-in-X c =
    let w = c.args.self.now in
    let s = c.skip.ensures.same in
    item_moves w (word.X c.in-X.count) _ c.if-self.false (sym c.word.ensures ∙ c.in-X.is) refl c.skip.new.self (same_as w c.skip.new.self s.run s.elements s.records) c.skip.ensures.index (X-step (sheet_of w).kinds (sheet_of w).records w.state c.from.ensures) c.in_ok-skip-in-X.was c.skip.ensures.moves

pub returns-in_ok-tab-in-T : goal.returns-in_ok-tab-in-T
returns-in_ok-tab-in-T c =
    let w = c.args.self.now in
    let s = c.tab.ensures.same in
    item_moves w (word.T c.in-T.column) _ c.if-self.false (sym c.word.ensures ∙ c.in-T.is) refl c.tab.new.self (same_as w c.tab.new.self s.run s.elements s.records) c.tab.ensures.index (T-step (sheet_of w).kinds (sheet_of w).records w.state c.from-in-T.ensures) c.in_ok-tab-in-T.was c.tab.ensures.moves

pub returns-in_ok-next_record-in-Slash : goal.returns-in_ok-next_record-in-Slash
returns-in_ok-next_record-in-Slash c =
    let w = c.args.self.now in
    let s = c.next_record.ensures.same in
    item_moves w word.Slash _ c.if-self.false (sym c.word.ensures ∙ c.in-Slash.is) refl c.next_record.new.self (same_as w c.next_record.new.self s.run s.elements s.records) c.next_record.ensures.index (slash_step (sheet_of w).kinds (sheet_of w).records w.state) c.in_ok-next_record-in-Slash.was c.next_record.ensures.moves

pub returns-in-Setting : goal.returns-in-Setting
returns-in-Setting c =
    let w = c.args.self.now in
    let s = c.set.ensures.same in
    item_moves w (word.Setting c.in-Setting.item) _ c.if-self.false (sym c.word.ensures ∙ c.in-Setting.is) refl c.set.new.self (same_as w c.set.new.self s.run s.elements s.records) c.set.ensures.index refl refl (set_moves (sheet_of w).kinds (sheet_of w).records w.state c.in-Setting.item c.set.ensures.moves)
