-- Answers the goals of `Parts::load_all`.
use Rattle.ckpt_core.proofs.{rules, ◌≡◌, ℕ, ◌+◌, ◌<◌, Err, List, [], ◌∷◌, ◌++◌, length, map, take, get_or, refl, sym, ap, subst, ◌∙◌, append_assoc, map-append, take-append-drop, take_all, take_more}
use Rattle.ckpt_core.proofs.{Record, Damaged, Saved, Parts, record_in, opening_of, state_of, AreSoundRecords, joined_records, beside, beside_itself, joins_before, joins_beside, joins_in_list}
use Rattle.ckpt_core.proofs.{more_beside, no_records_sound, sound_beside}
use Rattle.std.proofs.Common.{drop}
use Rattle.ckpt_core.proofs.parts.Parts.load_all.Goals as goal

next_of : (xs : List Saved) (i : ℕ) (s : Saved) → i < length xs → s ≡ get_or xs i s → map record_in (take (i + 1) xs) ≡ map record_in (take i xs) ++ record_in s ∷ []
next_of xs i s within at = ap (map record_in) (take_more xs i s within ∙ ap (λ z. take i xs ++ z ∷ []) (sym at)) ∙ map-append record_in (take i xs) (s ∷ [])

split_at : (xs : List Saved) (i : ℕ) (s : Saved) → i < length xs → s ≡ get_or xs i s → map record_in xs ≡ map record_in (take i xs) ++ record_in s ∷ map record_in (drop (i + 1) xs)
split_at xs i s within at =
    ap (map record_in) (sym (take-append-drop (i + 1) xs) ∙ ap (λ ys. ys ++ drop (i + 1) xs) (take_more xs i s within ∙ ap (λ z. take i xs ++ z ∷ []) (sym at)) ∙ append_assoc (take i xs) (s ∷ [])
    (drop (i + 1) xs)) ∙ map-append record_in (take i xs) (s ∷ drop (i + 1) xs)

pub loop-saved-init : goal.loop-saved-init
loop-saved-init c = record { state = beside_itself c.args.self.now [] c.requires.none; tied = c.requires.tied; none = refl; noted = refl; sound = no_records_sound _ _ }

pub load-requires-clause-tied : goal.load-requires-clause-tied
load-requires-clause-tied c = c.loop-saved.invariant.tied

pub load-requires-clause-sound : goal.load-requires-clause-sound
load-requires-clause-sound c =
    sound_beside (beside c.args.self.now c.loop-saved.self (map record_in (take c.loop-saved.saved-index c.args.records.now)) c.loop-saved.invariant.state) c.loop-saved.invariant.sound

pub load-requires-clause-base : goal.load-requires-clause-base
load-requires-clause-base c = (beside c.args.self.now c.loop-saved.self (map record_in (take c.loop-saved.saved-index c.args.records.now)) c.loop-saved.invariant.state).base ∙ c.requires.base

pub loop-saved-preserved : goal.loop-saved-preserved
loop-saved-preserved c =
    let p : Parts = c.args.self.now in
    let q : Parts = c.loop-saved.self in
    let xs : List Saved = c.args.records.now in
    let i : ℕ = c.loop-saved.saved-index in
    let rs : List Record = map record_in (take i xs) in
    let s : Saved = c.saved-item.result in
    let next : map record_in (take (i + 1) xs) ≡ rs ++ record_in s ∷ [] = next_of xs i s c.loop-saved-test.true c.saved-item.is in
    let S : List Record → Type 0 = AreSoundRecords (opening_of p.opened) p.next in
    record {
      state = more_beside p q c.load.new.self rs (record_in s) c.loop-saved.invariant.state c.in_ok-load.ensures.state ∙ ap (λ ys. record (state_of p) { records = ys }) (sym next);
      tied = c.in_ok-load.ensures.tied;
      none = c.in_ok-load.ensures.none ∙ c.loop-saved.invariant.none;
      noted = c.in_ok-load.ensures.noted ∙ c.loop-saved.invariant.noted;
      sound = subst S (sym next) (joined_records c.loop-saved.invariant.sound (joins_beside (record_in s) (beside p q rs c.loop-saved.invariant.state) c.in_ok-load.ensures.joins));
    }

pub returns-in_err-load-clause-damaged : goal.returns-in_err-load-clause-damaged
returns-in_err-load-clause-damaged c =
    λ h s.
    let rs : List Record = map record_in (take c.loop-saved.saved-index c.args.records.now) in
    let bad : c.load.result ≡ Err Damaged = search rules in
    let S : List Record → Type 0 = AreSoundRecords (opening_of c.args.self.now.opened) c.args.self.now.next in
    let all : map record_in c.args.records.now ≡ rs ++ record_in c.saved-item.result ∷ map record_in (drop (c.loop-saved.saved-index + 1) c.args.records.now) = split_at c.args.records.now
    c.loop-saved.saved-index c.saved-item.result c.loop-saved-test.true c.saved-item.is in
    c.load.ensures.damaged bad (joins_before (record_in c.saved-item.result) (beside c.args.self.now c.loop-saved.self rs c.loop-saved.invariant.state)
    (joins_in_list rs (map record_in (drop (c.loop-saved.saved-index + 1) c.args.records.now)) (record_in c.saved-item.result) (subst S all s)))

pub returns-clause-state : goal.returns-clause-state
returns-clause-state c =
    c.loop-saved.invariant.state ∙ ap (λ xs. record (state_of c.args.self.now) { records = map record_in xs }) (take_all c.loop-saved.saved-index c.args.records.now c.loop-saved-test.false)

pub returns-clause-sound : goal.returns-clause-sound
returns-clause-sound c = rw (take_all c.loop-saved.saved-index c.args.records.now c.loop-saved-test.false) at c.loop-saved.invariant.sound
