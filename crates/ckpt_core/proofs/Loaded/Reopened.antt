-- A coordinator that is made from an image, step by step: what the state says about the parts, and which states are possible.
use Rattle.ckpt_core.proofs.Names.{◌≡◌, ◌≢◌, ℕ, ◌+◌, ◌-◌, ◌<◌, Bool, true, ◌||◌, List, [], ◌∷◌, ◌++◌, length, map, take, get_or, refl, sym, ap, subst, ◌∙◌, inl, ⊎_elim, Option, Some, arith, both_ways}
use Rattle.ckpt_core.proofs.Names.{append_assoc, take-append-drop, take_more, IsWithinLimits, AreDistinct, IsIn, Record, Use, is_present, uses, IsShape, AreDistinct-apart, AreDistinct-left}
use Rattle.ckpt_core.proofs.Names.{AreDistinct-right, IsIn-append_cases, IsIn-append_left, IsIn-append_right, IsIn-from_in_order, IsIn-in_order, IsIn-map, IsIn-from_test, Queues, is_in, IsPending}
use Rattle.ckpt_core.proofs.Names.{IsStored, Stored, Running, Parts, Saved, CanHold, HasSoundNumbers, record_in, state_in, grouped, with_pins, AreFilesApart, emptied, with_more_waiting, opening_of}
use Rattle.ckpt_core.proofs.Names.{records_in, state_of, Joins, AreSoundRecords, id_before, is_done_savepoint, Opening, State, Image, outbox_of, sound_from, common_steps}
use Rattle.std.proofs.Common.{drop}
use Rattle.ckpt_core.proofs.Ending.Drops.{groups_of}
use Rattle.ckpt_core.proofs.Loaded.Joining.{joins_from_sound, sound_front}
use Rattle.ckpt_core.proofs.Records.Lookups.{done_in}

-- what the parts have of the state that they stand for
pub record IsTold (p : Parts) (m : State) : Type 0 where
  pub opening : opening_of p.opened ≡ m.opening
  pub mode : p.mode ≡ m.mode
  pub next : p.next ≡ m.next
  pub base : p.store.base ≡ m.base
  pub records : records_in p ≡ m.records
  pub waiting : p.outbox.waiting ≡ m.waiting
  pub taken : p.outbox.taken ≡ m.taken

pub told : (p : Parts) (m : State) → state_of p ≡ m → IsTold p m
unfolding state_of
told p m e = grind (arith, common_steps)

-- of parts that differ in the records alone
pub record IsBeside (p q : Parts) (rs : List Record) : Type 0 where
  pub opening : opening_of q.opened ≡ opening_of p.opened
  pub next : q.next ≡ p.next
  pub base : q.store.base ≡ p.store.base
  pub records : records_in q ≡ rs

pub beside : (p q : Parts) (rs : List Record) → state_of q ≡ record (state_of p) { records = rs } → IsBeside p q rs
unfolding state_of
beside p q rs e = grind (arith, common_steps)

pub beside_itself : (p : Parts) (rs : List Record) → records_in p ≡ rs → state_of p ≡ record (state_of p) { records = rs }
unfolding state_of
beside_itself p rs e = ap (λ xs. record (state_of p) { records = xs }) e

pub sound_beside : {p q : Parts} {rs : List Record} → IsBeside p q rs → AreSoundRecords (opening_of p.opened) p.next rs → AreSoundRecords (opening_of q.opened) q.next (records_in q)
sound_beside {p} {q} {rs} b s = grind (arith, common_steps)

pub joins_beside : {p q : Parts} {rs : List Record} (r : Record) → IsBeside p q rs → Joins (opening_of q.opened) q.next (records_in q) r → Joins (opening_of p.opened) p.next rs r
joins_beside {p} {q} {rs} r b j = grind (arith, common_steps)

pub joins_before : {p q : Parts} {rs : List Record} (r : Record) → IsBeside p q rs → Joins (opening_of p.opened) p.next rs r → Joins (opening_of q.opened) q.next (records_in q) r
joins_before {p} {q} {rs} r b j = grind (arith, common_steps)

-- one record more
pub more_beside : (p q n : Parts) (rs : List Record) (r : Record) → state_of q ≡ record (state_of p) { records = rs } → state_of n ≡ record (state_of q) { records = records_in q ++ r ∷ [] } →
    state_of n ≡ record (state_of p) { records = rs ++ r ∷ [] }
more_beside p q n rs r e f = f ∙ ap (λ (s : State). record s { records = records_in q ++ r ∷ [] }) e ∙ ap (λ xs. record (state_of p) { records = xs ++ r ∷ [] }) (beside p q rs e).records

-- each of a list's sound records joins those before it
pub joins_in_list : {o : Opening} {next : ℕ} (xs ys : List Record) (r : Record) → AreSoundRecords o next (xs ++ r ∷ ys) → Joins o next xs r
joins_in_list {o} {next} xs ys r s = joins_from_sound (sound_front (xs ++ r ∷ []) ys (subst (AreSoundRecords o next) (split xs) s))
  where
    split : (zs : List Record) → zs ++ r ∷ ys ≡ (zs ++ r ∷ []) ++ ys
    split [] = refl
    split (z ∷ zs) = ap (λ ws. z ∷ ws) (split zs)

pub no_records_sound : (o : Opening) (next : ℕ) → AreSoundRecords o next []
no_records_sound o next = grind (arith, common_steps)

-- when it can be held

pub can_hold_from : (m : State) → HasSoundNumbers m → IsWithinLimits m.opening.config → IsShape m.opening.shape → IsShape m.shape → AreSoundRecords m.opening m.next m.records →
    ((id : ℕ) → m.base ≡ Some id → is_done_savepoint m id ≡ true) → (m.mode ≢ Running → (r : Record) → IsIn r m.records → r.done ≡ true) → AreFilesApart (uses m.records) (m.waiting ++ m.taken) →
    CanHold m
can_hold_from m n config first_shape shape records base idle files = grind (arith, common_steps, sound_from)

pub files_held : {m : State} → CanHold m → AreFilesApart (uses m.records) (m.waiting ++ m.taken)
files_held h = let o = outbox_of h.sound in record { unused = o.unused; apart = o.apart }

-- two states with the same parts
pub state_same : (a b : State) → a.opening ≡ b.opening → a.shape ≡ b.shape → a.mode ≡ b.mode → a.latest ≡ b.latest → a.due ≡ b.due → a.completed ≡ b.completed → a.failures ≡ b.failures →
    a.next ≡ b.next → a.base ≡ b.base → a.records ≡ b.records → a.waiting ≡ b.waiting → a.taken ≡ b.taken → a ≡ b
state_same a b e_opening e_shape e_mode e_latest e_due e_completed e_failures e_next e_base e_records e_waiting e_taken =
    rw (e_opening, e_shape, e_mode, e_latest, e_due, e_completed, e_failures, e_next, e_base, e_records, e_waiting, e_taken)

-- the base

pub base_state : (p : Parts) (b : Option ℕ) → p.store.base ≡ b → state_of p ≡ record (state_of p) { base = b }
unfolding state_of
base_state p b e = ap (λ x. record (state_of p) { base = x }) e

pub set_state : (p : Parts) (s : Stored) (b : Option ℕ) → s ≡ record p.store { base = b } → state_of (record p { store = s }) ≡ record (state_of p) { base = b }
unfolding state_of
set_state p s b e = ap (λ (x : Stored). state_of (record p { store = x })) e

-- nothing is pending

pub all_done : (p : Parts) (r : Record) → ((q : Record) → IsIn q p.pending → IsPending q) → IsStored p.store → length p.pending ≡ 0 → IsIn r (records_in p) → r.done ≡ true
all_done p r pending stored none h = let us = p.registry in let rest : List Record = p.store.checkpoints ++ p.store.savepoints in let empty : p.pending ≡ [] = no_items p.pending none in
    done_in (groups_of p pending stored) r (rw empty at (IsIn-from_in_order id_before r (grouped us p.pending p.store.checkpoints p.store.savepoints) h))
  where
    no_items : (xs : List Record) → length xs ≡ 0 → xs ≡ []
    no_items [] e = refl
    no_items (x ∷ xs) e = absurd (omega arith)

first_of : (xs : List Record) → (length xs ≡ 0 → ⊥) → (r : Record) × IsIn r xs
first_of [] e = absurd (e refl)
first_of (x ∷ xs) e = (x, inl refl)

pub not_all_done : (p : Parts) → ((q : Record) → IsIn q p.pending → IsPending q) → (length p.pending ≡ 0 → ⊥) → ((r : Record) → IsIn r (records_in p) → r.done ≡ true) → ⊥
not_all_done p pending some all = let us = p.registry in let q = first_of p.pending some in let r : Record = with_pins us q.0 in
    let there : IsIn r (records_in p) = IsIn-in_order id_before r (grouped us p.pending p.store.checkpoints p.store.savepoints)
    (IsIn-append_left r (map (with_pins us) p.pending) (p.store.checkpoints ++ p.store.savepoints) (IsIn-map (with_pins us) q.0 p.pending q.1)) in
    both_ways r.done (pending q.0 q.1).not_done (all r there)

-- the files

pub apart_behind : {us : List Use} (xs ys : List ℕ) → AreFilesApart us (xs ++ ys) → AreFilesApart us ys
apart_behind xs ys a = record { unused = λ f h. a.unused f (IsIn-append_right f xs ys h); apart = AreDistinct-right xs ys a.apart }

-- a file that is already known when it is put there is in use, or is there twice
pub known_twice : (us : List Use) (waiting files taken : List ℕ) (i f : ℕ) → i < length files → f ≡ get_or files i f → (is_present us f || is_in f ((waiting ++ take i files) ++ taken)) ≡ true →
    AreFilesApart us ((waiting ++ files) ++ taken) → ⊥
known_twice us waiting files taken i f within at known a = let rest : List ℕ = drop (i + 1) files in
    let split : files ≡ take i files ++ f ∷ rest = sym (take-append-drop (i + 1) files) ∙ ap (λ ys. ys ++ rest) (take_more files i f within ∙ ap (λ z. take i files ++ z ∷ []) (sym at))
    ∙ append_assoc (take i files) (f ∷ []) rest in let here : IsIn f files = rw split (IsIn-append_right f (take i files) (f ∷ rest) (inl refl)) in
    let there : IsIn f ((waiting ++ files) ++ taken) = IsIn-append_left f (waiting ++ files) taken (IsIn-append_right f waiting files here) in
    let distinct : AreDistinct (waiting ++ files) = AreDistinct-left (waiting ++ files) taken a.apart in
    let seam : AreDistinct ((waiting ++ take i files) ++ f ∷ rest) = rw (ap (λ xs. waiting ++ xs) split ∙ sym (append_assoc waiting (take i files) (f ∷ rest))) at distinct in
    let unknown : is_in f ((waiting ++ take i files) ++ taken) ≡ true = subst (λ (b : Bool). (b || is_in f ((waiting ++ take i files) ++ taken)) ≡ true) (a.unused f there) known in
    ⊎_elim (λ k. AreDistinct-apart (waiting ++ take i files) (f ∷ rest) seam f k (inl refl)) (λ k. AreDistinct-apart (waiting ++ files) taken a.apart f (IsIn-append_right f waiting files here) k)
    (IsIn-append_cases f (waiting ++ take i files) taken (IsIn-from_test f ((waiting ++ take i files) ++ taken) unknown))

-- one file more waits
pub one_more_waits : (p q : Parts) (xs next : List ℕ) (f : ℕ) (o : Queues) → q ≡ with_more_waiting p xs → o ≡ record q.outbox { waiting = q.outbox.waiting ++ f ∷ []; spare = q.outbox.spare - 1 } →
    next ≡ xs ++ f ∷ [] → record q { outbox = o } ≡ with_more_waiting p next
one_more_waits p q xs next f o e put is = grind (arith, common_steps)

pub state_files : (p q : Parts) (o : Queues) (waiting taken : List ℕ) → q ≡ record p { outbox = o } → o.waiting ≡ waiting → o.taken ≡ taken →
    state_of q ≡ record (state_of p) { waiting = waiting; taken = taken }
unfolding state_of
state_files p q o waiting taken e a b = grind (arith, common_steps)

-- the state, step by step, for the image of m

pub after_records : (m : State) (p0 p1 : Parts) (slice : List Saved) → state_of p0 ≡ emptied m → state_of p1 ≡ record (state_of p0) { records = map record_in slice } →
    map record_in slice ≡ m.records → state_of p1 ≡ record (emptied m) { records = m.records }
after_records m p0 p1 slice e0 e1 same = e1 ∙ ap (λ (s : State). record s { records = map record_in slice }) e0 ∙ ap (λ (rs : List Record). record (emptied m) { records = rs }) same

pub after_base : (m : State) (p1 p2 : Parts) → state_of p1 ≡ record (emptied m) { records = m.records } → state_of p2 ≡ record (state_of p1) { base = m.base } →
    state_of p2 ≡ record m { waiting = []; taken = [] }
after_base m p1 p2 e1 e2 = e2 ∙ ap (λ (s : State). record s { base = m.base }) e1

-- the same from what each step ensures: the state once the records are loaded, and once the base is
pub state_with_records : (i : Image) (p0 p1 : Parts) (slice : List Saved) → state_of p0 ≡ emptied (state_in i) → slice ≡ i.records.items →
    state_of p1 ≡ record (state_of p0) { records = map record_in slice } → state_of p1 ≡ record (emptied (state_in i)) { records = map record_in i.records.items }
state_with_records i p0 p1 slice begun same loaded = after_records (state_in i) p0 p1 slice begun loaded (ap (map record_in) same)

pub state_with_base : (i : Image) (p0 p1 p2 : Parts) (slice : List Saved) → state_of p0 ≡ emptied (state_in i) → slice ≡ i.records.items →
    state_of p1 ≡ record (state_of p0) { records = map record_in slice } → state_of p2 ≡ record (state_of p1) { base = i.base } → state_of p2 ≡ record (state_in i) { waiting = []; taken = [] }
state_with_base i p0 p1 p2 slice begun same loaded based = after_base (state_in i) p1 p2 (state_with_records i p0 p1 slice begun same loaded) based

pub after_files : (m : State) (p2 p3 : Parts) → state_of p2 ≡ record m { waiting = []; taken = [] } → state_of p3 ≡ record (state_of p2) { waiting = m.waiting; taken = m.taken } → state_of p3 ≡ m
after_files m p2 p3 e2 e3 = e3 ∙ ap (λ (s : State). record s { waiting = m.waiting; taken = m.taken }) e2

pub records_held : (m : State) (p0 : Parts) (rs : List Record) → state_of p0 ≡ emptied m → rs ≡ m.records → AreSoundRecords m.opening m.next m.records →
    AreSoundRecords (opening_of p0.opened) p0.next rs
records_held m p0 rs e0 same s = let t : IsTold p0 (emptied m) = told p0 (emptied m) e0 in rw same (rw t.next (rw t.opening s))

pub records_loaded : (m : State) (p0 : Parts) (rs : List Record) → state_of p0 ≡ emptied m → rs ≡ m.records → AreSoundRecords (opening_of p0.opened) p0.next rs →
    AreSoundRecords m.opening m.next m.records
records_loaded m p0 rs e0 same s = let t : IsTold p0 (emptied m) = told p0 (emptied m) e0 in rw t.opening at (rw t.next at (rw same at s))

pub idle_held : (m : State) (p : Parts) → IsTold p (record m { waiting = []; taken = [] }) → (m.mode ≢ Running → (r : Record) → IsIn r m.records → r.done ≡ true) → p.mode ≢ Running → (r : Record) →
    IsIn r (records_in p) → r.done ≡ true
idle_held m p t idle other r h = idle (λ e. other (t.mode ∙ e)) r (rw t.records at h)

pub idle_loaded : (m : State) (p : Parts) → IsTold p (record m { waiting = []; taken = [] }) → (p.mode ≢ Running → (r : Record) → IsIn r (records_in p) → r.done ≡ true) → m.mode ≢ Running →
    (r : Record) → IsIn r m.records → r.done ≡ true
idle_loaded m p t idle other r h = idle (λ e. other (sym t.mode ∙ e)) r (rw t.records h)
