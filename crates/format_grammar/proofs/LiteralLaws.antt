-- Literals as they are read: from their opening mark up to the byte after their closing mark.
-- Assumes nothing.
use mathlib.Core.Path.{◌≡◌, refl, sym, ap, ◌∙◌}
use mathlib.Core.Logic.{⊎_elim}
use mathlib.Core.Bool.{Bool, true, false, cond}
use mathlib.Core.List.{List, [], ◌∷◌, ◌++◌, append_assoc, append-nil}
use Prim.Native.Nat.{ℕ, ◌+◌, ◌<◌, ◌≤◌}
use native.Mathlib.Omega.{arith}
use borrow.Author.Tests.{eq-eqb, eqb-true, le-leb}
use lib.Dec.{eqb}
use lib.ListN.{length, get_or}
use Rattle.number.specs.Digits.{is_digit}
use Rattle.format_grammar.specs.Characters.{apostrophe, quotation_mark}
use Rattle.format_items.specs.Items.{Repeat, Items, join}
use Rattle.format_grammar.specs.Grammar.{part, Mark, doubled, LiteralAt}
use Rattle.buffer.specs.Characters.{Printable}
use Rattle.format_grammar.specs.Reading.{Use, Mode, Open, State, step, step_within, wanted, begun, is_empty, read_at}
use Rattle.format_grammar.proofs.ReadLaws.{read_step, read_same, step_used}
use Rattle.format_grammar.proofs.PartLaws.{part_length, first}
use Rattle.format_grammar.proofs.NumberLaws.{not_digit, written_absent, Follows}

-- ---- the steps in a literal

pub step_open : (m at l : ℕ) (xs : Items) (q : Open) → Mark m → step at (State.within (wanted at) l xs q) m ≡ State.within (Mode.inside m []) l xs q
step_open m at l xs q h =
    let go : (c : ℕ) → is_digit c ≡ false → begun Repeat.absent at l xs q c ≡ State.within (Mode.inside c []) l xs q → step at (State.within (wanted at) l xs q) c ≡ State.within (Mode.inside c []) l xs q =
    λ c e f. step_used Use.start at 0 at l xs q c (not_digit at at c e) ∙ rw (written_absent at at 0 refl) f in
    ⊎_elim (λ e. rw e (go apostrophe refl refl)) (λ e. rw e (go quotation_mark refl refl)) h

pub step_mark : (m : ℕ) (cs : List ℕ) (at l : ℕ) (xs : Items) (q : Open) → step at (State.within (Mode.inside m cs) l xs q) m ≡ State.within (Mode.mark m cs) l xs q
unfolding step step_within
step_mark m cs at l xs q = rw (eq-eqb m m refl)

pub step_again : (m : ℕ) (cs : List ℕ) (at l : ℕ) (xs : Items) (q : Open) → step at (State.within (Mode.mark m cs) l xs q) m ≡ State.within (Mode.inside m (cs ++ m ∷ [])) l xs q
unfolding step step_within
step_again m cs at l xs q = rw (eq-eqb m m refl)

step_plain : (m : ℕ) (cs : List ℕ) (at l : ℕ) (xs : Items) (q : Open) (c : ℕ) → eqb c m ≡ false → 32 ≤ c → c ≤ 126 → step at (State.within (Mode.inside m cs) l xs q) c ≡ State.within (Mode.inside m (cs ++ c ∷ [])) l xs q
unfolding step step_within
step_plain m cs at l xs q c e lo hi = rw (e, le-leb 32 c lo, le-leb c 126 hi)

-- ---- the characters

one_byte : (s : List ℕ) (at l : ℕ) (xs : Items) (q : Open) (x y : Mode) (c : ℕ) → at < length s → get_or s at 0 ≡ c → step at (State.within x l xs q) c ≡ State.within y l xs q → read_at s at (State.within x l xs q) ≡ read_at s (at + 1) (State.within y l xs q)
one_byte s at l xs q x y c h e f = read_step s at (State.within x l xs q) (State.within y l xs q) h (rw e f) (λ a b. refl)

read_characters : (s : List ℕ) (m e l : ℕ) (xs : Items) (q : Open) → e ≤ length s → (cs done : List ℕ) (at : ℕ) → at ≤ e → part s at e ≡ doubled m cs → Printable cs
    → read_at s at (State.within (Mode.inside m done) l xs q) ≡ read_at s e (State.within (Mode.inside m (done ++ cs)) l xs q)
unfolding doubled
read_characters s m e l xs q h [] done at g p d =
    let k = sym (part_length s at e h) ∙ ap length p in
    let z : at ≡ e = omega arith in
    rw (z, append-nil done)
read_characters s m e l xs q h (c ∷ cs) done at g p d = go (eqb c m) refl p (read_characters s m e l xs q h cs)
  where
    go : (t : Bool) → eqb c m ≡ t → part s at e ≡ cond t (m ∷ m ∷ doubled m cs) (c ∷ doubled m cs)
        → ((done : List ℕ) (at : ℕ) → at ≤ e → part s at e ≡ doubled m cs → Printable cs
        → read_at s at (State.within (Mode.inside m done) l xs q) ≡ read_at s e (State.within (Mode.inside m (done ++ cs)) l xs q))
        → read_at s at (State.within (Mode.inside m done) l xs q) ≡ read_at s e (State.within (Mode.inside m (done ++ c ∷ cs)) l xs q)
    go true t f r =
        let i = first s at e m _ h f in
        let j = first s (at + 1) e m _ h i.rest in
        one_byte s at l xs q (Mode.inside m done) (Mode.mark m done) m (omega arith) i.is (step_mark m done at l xs q)
        ∙ one_byte s (at + 1) l xs q (Mode.mark m done) (Mode.inside m (done ++ m ∷ [])) m (omega arith) j.is (step_again m done (at + 1) l xs q)
        ∙ r (done ++ m ∷ []) (at + 1 + 1) (omega arith) j.rest d.2
        ∙ rw (eqb-true c m t, append_assoc done (m ∷ []) cs)
    go false t f r =
        let i = first s at e c _ h f in
        one_byte s at l xs q (Mode.inside m done) (Mode.inside m (done ++ c ∷ [])) c (omega arith) i.is (step_plain m done at l xs q c t d.0 d.1)
        ∙ r (done ++ c ∷ []) (at + 1) (omega arith) i.rest d.2
        ∙ rw (append_assoc done (c ∷ []) cs)

not_empty : (cs : List ℕ) → 0 < length cs → is_empty cs ≡ false
not_empty [] h = absurd (omega arith)
not_empty (c ∷ cs) h = refl

pub step_behind : (m : ℕ) (cs : List ℕ) (at l : ℕ) (xs : Items) (q : Open) (b : ℕ) → eqb b m ≡ false → is_empty cs ≡ false
    → step at (State.within (Mode.mark m cs) l xs q) b ≡ step at (State.within Mode.after l (join xs (Items.literal cs Items.none)) q) b
unfolding step step_within
step_behind m cs at l xs q b e f = rw (e, f)

pub read_literal : {s : List ℕ} {a c : ℕ} {cs : List ℕ} → LiteralAt s a cs c → Follows s (c + 1) → (l : ℕ) (xs : Items) (q : Open)
    → read_at s a (State.within (wanted a) l xs q) ≡ read_at s (c + 1) (State.within Mode.after l (join xs (Items.literal cs Items.none)) q)
read_literal {s} {a} {c} {cs} h f l xs q =
    let m : ℕ = h.m in
    one_byte s a l xs q (wanted a) (Mode.inside m []) m h.opens.within h.opens.is (step_open m a l xs q h.mark)
    ∙ read_characters s m c l xs q (omega arith) cs [] (a + 1) (omega arith) h.between h.printable
    ∙ one_byte s c l xs q (Mode.inside m cs) (Mode.mark m cs) m h.closes.within h.closes.is (step_mark m cs c l xs q)
    ∙ read_same s (c + 1) (State.within (Mode.mark m cs) l xs q) (State.within Mode.after l (join xs (Items.literal cs Items.none)) q)
    (λ z. step_behind m cs (c + 1) l xs q (get_or s (c + 1) 0) (f.no_mark m h.mark) (not_empty cs h.some)) refl
