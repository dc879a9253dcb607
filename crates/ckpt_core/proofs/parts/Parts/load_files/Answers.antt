-- Answers the goals of `Parts::load_files`.
use Rattle.ckpt_core.proofs.{rules, ◌≡◌, ℕ, ◌≤◌, Err, List, [], ◌++◌, length, take, sym, ap, subst, ◌∙◌, ⊎_elim, arith, append-nil, drop_all, take_all, IsIn, IsIn-append_cases, Queues, Damaged, Parts}
use Rattle.ckpt_core.proofs.{apart_behind, state_files}
use Rattle.std.proofs.Common.{drop}
use Rattle.ckpt_core.proofs.parts.Parts.load_files.Goals as goal

-- files put into the empty outbox
alone : (waiting slice taken files : List ℕ) → waiting ≡ [] → taken ≡ [] → slice ≡ files → (waiting ++ slice) ++ taken ≡ files
alone waiting slice taken files a b s = ap (λ (xs : List ℕ). (xs ++ slice) ++ taken) a ∙ ap (λ (xs : List ℕ). slice ++ xs) b ∙ append-nil slice ∙ s

pub returns-in_err-put_back-clause-damaged : goal.returns-in_err-put_back-clause-damaged
returns-in_err-put_back-clause-damaged c =
    λ h a.
    let bad : c.put_back.result ≡ Err Damaged = search rules in
    let empty : c.reserve_metered.new.self.waiting ≡ [] = ap (λ (q : Queues). q.waiting) c.in_ok-reserve_metered.ensures.ok ∙ c.requires.none_waits in
    let none : c.reserve_metered.new.self.taken ≡ [] = ap (λ (q : Queues). q.taken) c.in_ok-reserve_metered.ensures.ok ∙ c.requires.none_taken in
    c.put_back.ensures.damaged bad (rw (alone c.reserve_metered.new.self.waiting c.as_slice.result.now c.reserve_metered.new.self.taken c.args.taken.now empty none c.as_slice.ensures.files)
    (apart_behind c.args.waiting.now c.args.taken.now a))

-- the queues after the fetched files were put and taken again
after_take : (before put after : Queues) (slice files : List ℕ) (n : ℕ) → before.waiting ≡ [] → before.taken ≡ [] → slice ≡ files → n ≡ length files → put.waiting ≡ before.waiting ++ slice →
    put.taken ≡ before.taken → after ≡ record put { waiting = drop n put.waiting; taken = put.taken ++ take n put.waiting } → (after.waiting ≡ []) × (after.taken ≡ files)
after_take before put after slice files n none_waits none_taken same count waits takes ok =
    let all : put.waiting ≡ files = waits ∙ ap (λ (xs : List ℕ). xs ++ slice) none_waits ∙ same in
    let none : put.taken ≡ [] = takes ∙ none_taken in
    let le : length files ≤ n = omega arith in (
      ap (λ (q : Queues). q.waiting) ok ∙ ap (drop n) all ∙ drop_all n files le,
      ap (λ (q : Queues). q.taken) ok ∙ ap (λ (xs : List ℕ). xs ++ take n put.waiting) none ∙ ap (take n) all ∙ take_all n files le,
    )

abbrev waiting_in : Parts → List ℕ
waiting_in p = p.outbox.waiting

abbrev taken_in : Parts → List ℕ
taken_in p = p.outbox.taken

-- the outbox once both lists were put
taken_once : (c : goal.In_ok-make_room_for_files) → (c.take_metered.new.self.waiting ≡ []) × (c.take_metered.new.self.taken ≡ c.args.taken.now)
taken_once c =
    after_take c.reserve_metered.new.self c.put_back.new.self.outbox c.take_metered.new.self c.as_slice.result.now c.args.taken.now c.len-2.result
    (ap (λ (q : Queues). q.waiting) c.in_ok-reserve_metered.ensures.ok ∙ c.requires.none_waits) (ap (λ (q : Queues). q.taken) c.in_ok-reserve_metered.ensures.ok ∙ c.requires.none_taken)
    c.as_slice.ensures.files c.len-2.ensures (ap waiting_in c.in_ok-put_back.ensures.parts) (ap taken_in c.in_ok-put_back.ensures.parts) c.in_ok-take_metered.ensures.ok

waits : (c : goal.In_ok-make_room_for_files) → waiting_in c.put_back-2.new.self ≡ c.args.waiting.now
waits c =
    ap waiting_in c.in_ok-put_back-2.ensures.parts ∙ ap (λ (q : Queues). q.waiting ++ c.as_slice-2.result.now) c.in_ok-reserve_metered-2.ensures.ok ∙ ap (λ (xs : List ℕ). xs ++ c.as_slice-2.result.now)
    (taken_once c).0 ∙ c.as_slice-2.ensures

takes : (c : goal.In_ok-make_room_for_files) → taken_in c.put_back-2.new.self ≡ c.args.taken.now
takes c = ap taken_in c.in_ok-put_back-2.ensures.parts ∙ ap (λ (q : Queues). q.taken) c.in_ok-reserve_metered-2.ensures.ok ∙ (taken_once c).1

pub returns-clause-state : goal.returns-clause-state
returns-clause-state c =
    let frame : c.make_room_for_files.new.self ≡ record c.args.self.now { outbox = c.make_room_for_files.new.self.outbox } = c.in_ok-make_room_for_files.ensures.ok
    ∙ ap (λ (x : Queues). record c.put_back-2.new.self { outbox = x }) (ap (λ (r : Parts). r.outbox) (sym c.in_ok-make_room_for_files.ensures.ok))
    ∙ ap (λ (r : Parts). record r { outbox = c.make_room_for_files.new.self.outbox }) c.in_ok-put_back-2.ensures.parts
    ∙ ap (λ (r : Parts). record r { outbox = c.make_room_for_files.new.self.outbox }) c.in_ok-put_back.ensures.parts in
    state_files c.args.self.now c.make_room_for_files.new.self c.make_room_for_files.new.self.outbox c.args.waiting.now c.args.taken.now frame (ap waiting_in c.in_ok-make_room_for_files.ensures.ok
    ∙ waits c) (ap taken_in c.in_ok-make_room_for_files.ensures.ok ∙ takes c)

pub returns-clause-apart : goal.returns-clause-apart
returns-clause-apart c =
    let same : c.put_back.new.self.registry ≡ c.args.self.now.registry = ap (λ (r : Parts). r.registry) c.in_ok-put_back.ensures.parts in
    record {
      unused = λ f h.
          let P : List ℕ → Type 0 = λ xs. IsIn f xs in
          ⊎_elim (λ k. rw same at (c.in_ok-put_back-2.ensures.unused f (subst P (sym c.as_slice-2.ensures) k))) (λ k. c.in_ok-put_back.ensures.unused f (subst P (sym c.as_slice.ensures.files) k))
          (IsIn-append_cases f c.args.waiting.now c.args.taken.now h);
      apart = rw (ap (λ (xs : List ℕ). xs ++ c.put_back-2.new.self.outbox.taken) (waits c) ∙ ap (λ (xs : List ℕ). c.args.waiting.now ++ xs) (takes c)) at c.in_ok-put_back-2.ensures.apart;
    }
