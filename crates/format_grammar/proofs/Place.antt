-- The place at which a text is refused: the length of the longest beginning that some grammatical text shares.
-- Assumes nothing.
use mathlib.Core.Path.{◌≡◌, refl, sym, ap, ◌∙◌}
use mathlib.Core.List.{List, ◌++◌}
use Prim.Native.Nat.{ℕ, zero, suc, ◌+◌, ◌<◌, ◌≤◌}
use native.Mathlib.Omega.{arith}
use native.Mathlib.Decide.{dec_lt}
use lib.ListN.{length, get_or, take, length-append}
use lib.Seq.{take-take, get_or-take, length-take-le, take-append-le, take_at, drop_at}
use Rattle.format_grammar.specs.Grammar.{Begins, LongestShared}
use Rattle.format_grammar.specs.Reading.{State, Reading, step, final, unless_dead, read_at, reading}
use Rattle.format_grammar.proofs.ReadLaws.{read_one, read_step, read_dead, read_end}
use Rattle.format_grammar.proofs.Reached.{Reached}
use Rattle.format_grammar.proofs.Steps.{reached_step}
use Rattle.format_grammar.proofs.Complete.{complete}
use Rattle.format_grammar.proofs.Sound.{sound}
use Rattle.format_grammar.proofs.Ends.{state_ends}

-- every text that begins as s does up to `at` is read up to there, to the state st
abbrev Leads : List ℕ → ℕ → State → Type 0
Leads s at st = (t : List ℕ) → at ≤ length t → take at t ≡ take at s → reading t ≡ read_at t at st

-- the state at the place p, after which no byte of s goes on
record Stopped (s : List ℕ) (p : ℕ) : Type 0 where
  state : State
  reached : Reached s p state
  live : state ≡ State.dead → ⊥
  within : p ≤ length s
  leads : Leads s p state
  stops : p < length s → step p state (get_or s p 0) ≡ State.dead

-- texts that agree up to an offset
agree_less : (s t : List ℕ) (at : ℕ) → take (at + 1) t ≡ take (at + 1) s → take at t ≡ take at s
agree_less s t at e = sym (take-take at (at + 1) t (omega arith)) ∙ ap (take at) e ∙ take-take at (at + 1) s (omega arith)

agree_byte : (s t : List ℕ) (at : ℕ) → take (at + 1) t ≡ take (at + 1) s → get_or t at 0 ≡ get_or s at 0
agree_byte s t at e = sym (get_or-take (at + 1) t at 0 (omega arith)) ∙ ap (λ (x : List ℕ). get_or x at 0) e ∙ get_or-take (at + 1) s at 0 (omega arith)

is_dead : (st : State) → Dec (st ≡ State.dead)
is_dead State.begin = no (λ e. let z : ◌≡◌ {A = ℕ} 0 1 = cc in omega arith)
is_dead (State.within m l ys q) = no (λ e. let z : ◌≡◌ {A = ℕ} 0 1 = cc in omega arith)
is_dead (State.end ys) = no (λ e. let z : ◌≡◌ {A = ℕ} 0 1 = cc in omega arith)
is_dead State.dead = yes refl

not_dead : (st : State) → (st ≡ State.dead → ⊥) → (a b : Reading) → unless_dead st a b ≡ b
not_dead State.begin h a b = refl
not_dead (State.within m l ys q) h a b = refl
not_dead (State.end ys) h a b = refl
not_dead State.dead h a b = absurd (h refl)

final_wrong : (at : ℕ) (st : State) (p : ℕ) → final at st ≡ Reading.wrong p → at ≡ p
final_wrong at State.begin p e = (cc)
final_wrong at (State.within m l ys q) p e = (cc)
final_wrong at (State.end ys) p e = (cc)
final_wrong at State.dead p e = (cc)

stopped : (n : ℕ) (s : List ℕ) (at : ℕ) (st : State) (p : ℕ) → length s ≡ at + n → Reached s at st → (st ≡ State.dead → ⊥) → Leads s at st → read_at s at st ≡ Reading.wrong p → Stopped s p
stopped zero s at st p h r live leads e =
    let z : at ≡ p = final_wrong at st p (sym (read_end s at st (omega arith)) ∙ e) in
    record { state = st; reached = rw z at r; live = live; within = omega arith; leads = rw z at leads; stops = λ k. absurd (omega arith) }
stopped (suc n) s at st p h r live leads e = go (is_dead to) (stopped n s (at + 1) to p (omega arith) (reached_step (omega arith) r))
  where
    to : State
    to = step at st (get_or s at 0)

    go : Dec (to ≡ State.dead) → ((to ≡ State.dead → ⊥) → Leads s (at + 1) to → read_at s (at + 1) to ≡ Reading.wrong p → Stopped s p) → Stopped s p
    go (yes d) rec =
        let f : read_at s at st ≡ Reading.wrong at = read_dead s at st (omega arith) d in
        let z : at ≡ p = cc in
        record { state = st; reached = rw z at r; live = live; within = omega arith; leads = rw z at leads; stops = λ k. rw z at d }
    go (no d) rec =
        rec d
        (λ t k f. leads t (omega arith) (agree_less s t at f) ∙ read_step t at st to (omega arith) (rw (agree_byte s t at f)) (not_dead to d))
        (sym (not_dead to d _ _) ∙ sym (read_one s at st (omega arith)) ∙ e)

-- the bytes that lead from there to the end make a grammatical text
shares : (s : List ℕ) (p : ℕ) → Stopped s p → Begins (take p s)
unfolding read_at
shares s p k =
    let more = state_ends k.reached k.live in
    let t : List ℕ = take p s ++ more.text in
    let n : length (take p s) ≡ p = length-take-le p s k.within in
    let up : reading t ≡ read_at t p k.state = k.leads t (rw (length-append (take p s) more.text) (omega arith)) (take_at (take p s) more.text p n) in
    record { rest = more.text; read = more.items; format = sound t more.items (up ∙ rw (drop_at (take p s) more.text p n) more.ends) }

-- and no grammatical text shares the next byte
no_longer : (s : List ℕ) (p : ℕ) → Stopped s p → (n : ℕ) → p < n → n ≤ length s → Begins (take n s) → ⊥
no_longer s p k n lt le h =
    let t : List ℕ = take n s ++ h.rest in
    let c : length (take n s) ≡ n = length-take-le n s le in
    let long : n ≤ length t = rw (length-append (take n s) h.rest) (omega arith) in
    let same : take (p + 1) t ≡ take (p + 1) s = take-append-le (p + 1) (take n s) h.rest (omega arith) ∙ take-take (p + 1) n s (omega arith) in
    let bad : reading t ≡ Reading.wrong p =
    k.leads t (omega arith) (agree_less s t p same) ∙ read_dead t p k.state (omega arith) (rw (agree_byte s t p same) (k.stops (omega arith))) in
    let good = complete h.format in
    let z : ◌≡◌ {A = ℕ} 0 1 = cc in
    omega arith

pub place_is : (s : List ℕ) (p : ℕ) → reading s ≡ Reading.wrong p → LongestShared s p
unfolding reading
place_is s p e =
    let k = stopped (length s) s 0 State.begin p (omega arith) Reached.begin (λ d. let z : ◌≡◌ {A = ℕ} 0 1 = cc in omega arith) (λ t h f. refl) e in
    record { within = k.within; shared = shares s p k; longest = no_longer s p k }

-- there is only one such place
pub one_place : (s : List ℕ) (p q : ℕ) → LongestShared s p → LongestShared s q → p ≡ q
one_place s p q h g = go (dec_lt p q) (dec_lt q p)
  where
    go : Dec (p < q) → Dec (q < p) → p ≡ q
    go (yes k) d = absurd (h.longest q k g.within g.shared)
    go (no k) (yes j) = absurd (g.longest p j h.within h.shared)
    go (no k) (no j) = omega arith
