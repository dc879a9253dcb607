-- What is held after a record is put in the place of another, and after it gets one more acknowledgement.
use Rattle.ckpt_model.proofs.Names.{◌≡◌, ℕ, List, ◌++◌, map, refl, subst, ◌⊎◌, ⊎_elim, ltb, cond-true, eq-eqb, Acked, SubtaskId, IsIn, IsInOrder, ascending, Record, acknowledged, IsIn-append_cases}
use Rattle.ckpt_model.proofs.Names.{IsIn-map, IsIn-from_map, IsIn-in_order, IsIn-from_in_order, id_before, common_steps, arith}
use Rattle.ckpt_model.proofs.Records.Present.{Holds, IsHeld, Holds-put_ack, Holds-put_ack_new, Holds-put_ack_old}
use Rattle.ckpt_model.proofs.Records.Replacing.{put_in, IsReplacing, put_in_replaces}

-- a file that is held after is held by the record put in, or was held before
pub held_after_put : (f : ℕ) (rs : List Record) (old new : Record) → IsReplacing (put_in new) old new rs → IsHeld f (map (put_in new) rs) → Holds f new ⊎ IsHeld f rs
held_after_put f rs old new p h =
    let x = IsIn-from_map (put_in new) h.0 rs h.1 in
    grind (arith, common_steps, put_in, p.cases) steps 1000000

-- what the record put in holds is held after
pub held_by_put : (f : ℕ) (rs : List Record) (old new : Record) → IsIn old rs → new.id ≡ old.id → Holds f new → IsHeld f (map (put_in new) rs)
held_by_put f rs old new there same h = grind (arith, common_steps, IsIn-map, cond-true, eq-eqb, put_in)

-- what was held before is held after, if the record put in holds what the old one held
pub held_beside_put : (f : ℕ) (rs : List Record) (old new : Record) → IsReplacing (put_in new) old new rs → IsIn old rs → new.id ≡ old.id → (Holds f old → Holds f new) → IsHeld f rs
    → IsHeld f (map (put_in new) rs)
held_beside_put f rs old new p there same more h =
    ⊎_elim
    (λ (c : (h.0 ≡ old) × (put_in new h.0 ≡ new)). held_by_put f rs old new there same (more (subst (Holds f) c.0 h.2)))
    (λ (c : ((h.0).id ≡ old.id → ⊥) × (put_in new h.0 ≡ h.0)). (h.0, rw (← c.1) (IsIn-map (put_in new) h.0 rs h.1), h.2))
    (p.cases h.0 h.1)

-- with an acknowledgement's files, a file that is held after is one of them, or was held before
pub held_or_named : (f : ℕ) (rs : List Record) (q : Record) (subtask : SubtaskId) (fresh reused : List ℕ) → IsInOrder id_before rs → IsIn q rs
    → IsHeld f (map (put_in (acknowledged q subtask (ascending (fresh ++ reused)))) rs) → (IsIn f fresh ⊎ IsIn f reused) ⊎ IsHeld f rs
held_or_named f rs q subtask fresh reused order there h =
    let its : Acked = record { subtask = subtask; files = ascending (fresh ++ reused) } in
    let w : Record = acknowledged q subtask its.files in
    let put = held_after_put f rs q w (put_in_replaces q w rs order there refl) h in
    grind (arith, common_steps, IsIn-append_cases f fresh reused, IsIn-from_in_order ltb f (fresh ++ reused), Holds-put_ack f its q, put) steps 1000000

-- each of its files is held after
pub held_named : (f : ℕ) (rs : List Record) (q : Record) (subtask : SubtaskId) (fresh reused : List ℕ) → IsIn q rs → IsIn f (fresh ++ reused)
    → IsHeld f (map (put_in (acknowledged q subtask (ascending (fresh ++ reused)))) rs)
held_named f rs q subtask fresh reused there h =
    let its : Acked = record { subtask = subtask; files = ascending (fresh ++ reused) } in
    held_by_put f rs q (acknowledged q subtask its.files) there refl (Holds-put_ack_new f its q (IsIn-in_order ltb f (fresh ++ reused) h))

-- and so is each that was held before
pub held_still : (f : ℕ) (rs : List Record) (q : Record) (subtask : SubtaskId) (fresh reused : List ℕ) → IsInOrder id_before rs → IsIn q rs → IsHeld f rs
    → IsHeld f (map (put_in (acknowledged q subtask (ascending (fresh ++ reused)))) rs)
held_still f rs q subtask fresh reused order there h =
    let w : Record = acknowledged q subtask (ascending (fresh ++ reused)) in
    held_beside_put f rs q w (put_in_replaces q w rs order there refl) there refl (Holds-put_ack_old f (record { subtask = subtask; files = ascending (fresh ++ reused) }) q) h
