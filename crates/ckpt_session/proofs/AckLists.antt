-- The calls of an `all` line, one more at a time.
use Rattle.ckpt_session.proofs.Names.{◌≡◌, ℕ, ◌+◌, ◌<◌, length, take, get_or, List, [], ◌∷◌, ◌++◌, map, refl, sym, ap, ◌∙◌, arith, enumerate_from, take_more, length-take-le, Call, SubtaskId}
use Rattle.ckpt_session.proofs.Names.{ack_with, AllLine, acks_for}

-- the call of this place
abbrev ack_at : AllLine → ℕ → SubtaskId → Call
ack_at line place s = ack_with line.moment line.id (record { subtask = s; file = line.first + place })

abbrev acks_from : AllLine → ℕ → List SubtaskId → List Call
acks_from line place missing = map (ack_with line.moment line.id) (map (λ p. record { subtask = p.1; file = line.first + p.0 }) (enumerate_from place missing))

acks_from-push : (line : AllLine) (place : ℕ) (missing : List SubtaskId) (s : SubtaskId)
    → acks_from line place (missing ++ s ∷ []) ≡ acks_from line place missing ++ ack_at line (place + length missing) s ∷ []
acks_from-push line place [] s = let e : place + 0 ≡ place = omega arith in rw e refl
acks_from-push line place (t ∷ missing) s =
    let e : (place + 1) + length missing ≡ place + length (t ∷ missing) = omega arith in
    ap (λ cs. ack_at line place t ∷ cs) (acks_from-push line (place + 1) missing s ∙ ap (λ n. acks_from line (place + 1) missing ++ ack_at line n s ∷ []) e)

pub acks_for-none : (line : AllLine) → acks_for line [] ≡ []
unfolding acks_for
acks_for-none line = refl

pub acks_for-more : (line : AllLine) (missing : List SubtaskId) (place : ℕ) (d : SubtaskId) (calls : List Call) → place < length missing → calls ≡ acks_for line (take place missing)
    → calls ++ ack_at line place (get_or missing place d) ∷ [] ≡ acks_for line (take (place + 1) missing)
unfolding acks_for
acks_for-more line missing place d calls within so_far =
    let s : SubtaskId = get_or missing place d in
    let taken : length (take place missing) ≡ place = length-take-le place missing (omega arith) in
    let at : 0 + length (take place missing) ≡ place = omega arith in
    let more : acks_from line 0 (take place missing ++ s ∷ []) ≡ acks_from line 0 (take place missing) ++ ack_at line place s ∷ [] =
    acks_from-push line 0 (take place missing) s ∙ ap (λ (n : ℕ). acks_from line 0 (take place missing) ++ ack_at line n s ∷ []) at in
    ap (λ (cs : List Call). cs ++ ack_at line place s ∷ []) so_far ∙ sym more ∙ ap (acks_from line 0) (sym (take_more missing place d within))
