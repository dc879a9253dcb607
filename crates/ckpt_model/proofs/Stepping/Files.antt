-- What a call does to the files: which it registers, hands out and deletes, and that none is lost.
use Rattle.ckpt_model.proofs.Names.{◌≡◌, ℕ, ◌+◌, ◌≤◌, true, false, not, eqb, List, [], ◌∷◌, ◌++◌, length, take, refl, sym, ap, subst, ◌∙◌, ◌⊎◌, inl, inr, ⊎_elim, arith, filter, cases_Bool, eqb-true}
use Rattle.ckpt_model.proofs.Names.{not_from_false, length-drop, take-append-drop, Call, Ack, Deleted, Undeleted, Refusal, Answer, Refused, one_if, times, IsIn, uses, is_present, IsIn-append_left}
use Rattle.ckpt_model.proofs.Names.{IsIn-append_right, IsIn-append_cases, IsIn-filter, IsIn-from_filter, IsIn-from_list_any, list_any, State, is_known, without, IsSound, registered_as, deleted_as}
use Rattle.ckpt_model.proofs.Names.{AreDistinct, AreDistinct-right, count_by-cons, eq-eqb, ne_eqb, times-append, times-filter}
use Rattle.ckpt_model.proofs.Names.{common_steps}
use Rattle.std.proofs.Common.{drop}
use Rattle.ckpt_model.proofs.Records.{outbox_of}
use Rattle.ckpt_model.proofs.Histories.Balances.{drop_front, drop_all, times_once}
use Rattle.ckpt_model.proofs.Histories.Spreads.{IsSpread}

-- what a call with this answer registers
abbrev pub registers : State → Call → Answer → List ℕ
registers m (Ack now id subtask fresh reused) answer = registered_as answer fresh (filter (λ f. not (is_known m f)) fresh)
registers m call answer = []

-- what it hands out, with this state after
abbrev pub hands : State → Call → State → List ℕ
hands m (Undeleted file) n = []
hands m call n = drop (length m.waiting) n.waiting

-- what it deletes
abbrev pub deletes : Call → Answer → List ℕ
deletes (Deleted file) answer = deleted_as answer
deletes call answer = []

-- from a state to the one after, file by file
pub record IsSettled (m n : State) (registered handed deleted : List ℕ) : Type 0 where
  -- what is registered or present is handed out or present after, as often
  pub even : (f : ℕ) → times f registered + one_if (is_present (uses m.records) f) ≡ times f handed + one_if (is_present (uses n.records) f)
  -- a file of the outbox stays there, or is deleted
  pub stays : (f : ℕ) → IsIn f (m.waiting ++ m.taken) → IsIn f (n.waiting ++ n.taken) ⊎ IsIn f deleted
  -- one that is there after was there before, or is handed out, and one that is deleted was there before
  pub comes : (f : ℕ) → IsIn f (n.waiting ++ n.taken) → IsIn f (m.waiting ++ m.taken) ⊎ IsIn f handed
  pub were : (f : ℕ) → IsIn f deleted → IsIn f (m.waiting ++ m.taken)
  -- one that is handed out is there after, and one that is deleted is not present
  pub out : (f : ℕ) → IsIn f handed → IsIn f (n.waiting ++ n.taken)
  pub gone : (f : ℕ) → IsIn f deleted → is_present (uses n.records) f ≡ false
  -- what is handed out or in the outbox is deleted or in the outbox after, as often
  pub flows : (f : ℕ) → times f handed + times f (m.waiting ++ m.taken) ≡ times f deleted + times f (n.waiting ++ n.taken)

-- of a call that puts files at the end of waiting alone
pub spread_settled : {m n : State} {in_ : List ℕ} → IsSpread m.records m.waiting m.taken n in_ → IsSettled m n in_ (drop (length m.waiting) n.waiting) []
spread_settled {m} {n} {in_} i =
    let handed : drop (length m.waiting) n.waiting ≡ i.out = ap (drop (length m.waiting)) i.waits ∙ drop_front m.waiting i.out in
    let there : (f : ℕ) → IsIn f (m.waiting ++ i.out) ⊎ IsIn f m.taken → IsIn f (n.waiting ++ n.taken) = λ f h.
    rw (i.waits, i.fetched) (⊎_elim (IsIn-append_left f (m.waiting ++ i.out) m.taken) (IsIn-append_right f (m.waiting ++ i.out) m.taken) h) in
    record {
      even = λ f. rw handed ((i.even).even f);
      stays = λ f h. inl (there f (grind (arith, common_steps, IsIn-append_left f m.waiting i.out, IsIn-append_cases f m.waiting m.taken h)));
      comes = λ f h.
          rw handed (let cases = IsIn-append_cases f (m.waiting ++ i.out) m.taken (rw (← i.waits, ← i.fetched) h) in
          grind (arith, common_steps, IsIn-append_left f m.waiting m.taken, IsIn-append_right f m.waiting m.taken, IsIn-append_cases f m.waiting i.out, cases));
      were = λ f h. absurd h;
      out = λ f h. there f (inl (IsIn-append_right f m.waiting i.out (rw (← handed) h)));
      gone = λ f h. absurd h;
      flows = λ f. rw (handed, i.waits, i.fetched) (omega (arith, times-append f m.waiting m.taken, times-append f (m.waiting ++ i.out) m.taken, times-append f m.waiting i.out));
    }

-- of one that changes the outbox alone, and puts no file at the end of waiting
inward_settled : (m : State) (waiting taken deleted : List ℕ) → length waiting ≤ length m.waiting → ((f : ℕ) → IsIn f (m.waiting ++ m.taken) → IsIn f (waiting ++ taken) ⊎ IsIn f deleted)
    → ((f : ℕ) → IsIn f (waiting ++ taken) ⊎ IsIn f deleted → IsIn f (m.waiting ++ m.taken)) → ((f : ℕ) → IsIn f deleted → is_present (uses m.records) f ≡ false)
    → ((f : ℕ) → times f (m.waiting ++ m.taken) ≡ times f deleted + times f (waiting ++ taken)) → IsSettled m (record m { waiting = waiting; taken = taken }) [] (drop (length m.waiting) waiting) deleted
inward_settled m waiting taken deleted shorter stays before gone flows =
    let none : drop (length m.waiting) waiting ≡ [] = drop_all (length m.waiting) waiting shorter in
    let In : ℕ → List ℕ → Type 0 = λ f xs. IsIn f xs in
    record {
      even = λ f. ap (λ xs. times f xs + one_if (is_present (uses m.records) f)) (sym none);
      stays = stays;
      comes = λ f h. inl (before f (inl h));
      were = λ f h. before f (inr h);
      out = λ f h. absurd (subst (In f) none h);
      gone = gone;
      flows = λ f. rw none (omega (arith, flows f));
    }

-- of a Take
pub take_settled : (m : State) (most : ℕ) → IsSettled m (record m { waiting = drop most m.waiting; taken = m.taken ++ take most m.waiting }) [] (drop (length m.waiting) (drop most m.waiting)) []
take_settled m most =
    let front : List ℕ = take most m.waiting in
    let rest : List ℕ = drop most m.waiting in
    let whole : front ++ rest ≡ m.waiting = take-append-drop most m.waiting in
    inward_settled m rest (m.taken ++ front) [] (omega (arith, length-drop most m.waiting))
    (λ f h. inl (grind (arith, common_steps, IsIn-append_left f, IsIn-append_right f, IsIn-append_cases f front rest, IsIn-append_cases f m.waiting m.taken h, whole)))
    (λ f h. grind (arith, common_steps, IsIn-append_left f, IsIn-append_right f, IsIn-append_cases f rest (m.taken ++ front), IsIn-append_cases f m.taken front, h, whole))
    (λ f h. absurd h)
    (λ f. omega (arith, times-append f m.waiting m.taken, times-append f rest (m.taken ++ front), times-append f m.taken front, times-append f front rest, ap (times f) whole))

-- a taken file is there once: the one reported, or one that stays
times_without : (f file : ℕ) (taken : List ℕ) → AreDistinct taken → list_any (λ g. eqb g file) taken ≡ true → times f taken ≡ times f (file ∷ []) + times f (without file taken)
times_without f file taken distinct there =
    let q = IsIn-from_list_any (λ g. eqb g file) taken there in
    grind (arith, common_steps, times-filter (λ g. not (eqb g file)) f taken, count_by-cons (λ g. eqb g f) file [], times_once file taken distinct, eqb-true q.0 file q.2, q.1, eqb-true, cases_Bool (eqb f file), eq-eqb, ne_eqb) steps 1000000

-- a taken file is the one reported, or stays
reported_or_taken : (f file : ℕ) (taken : List ℕ) → IsIn f taken → (f ≡ file) ⊎ IsIn f (without file taken)
reported_or_taken f file taken h = grind (arith, common_steps, IsIn-filter, cases_Bool, eqb-true, not_from_false)

-- of an accepted Deleted
pub deleted_settled : (m : State) (file : ℕ) → IsSound m → list_any (λ f. eqb f file) m.taken ≡ true
    → IsSettled m (record m { taken = without file m.taken }) [] (drop (length m.waiting) m.waiting) (file ∷ [])
deleted_settled m file s there =
    let q = IsIn-from_list_any (λ g. eqb g file) m.taken there in
    let was_taken : (f : ℕ) → IsIn f (file ∷ []) → IsIn f m.taken = λ f h. grind (arith, common_steps, eqb-true q.0 file q.2) in
    inward_settled m m.waiting (without file m.taken) (file ∷ []) (omega arith)
    (λ f h. let right = IsIn-append_right f m.waiting (without file m.taken) in
    grind (arith, common_steps, IsIn-append_left f m.waiting (without file m.taken), right, reported_or_taken f file m.taken, IsIn-append_cases f m.waiting m.taken h))
    (λ f h. grind (arith, common_steps, IsIn-append_left f m.waiting m.taken, IsIn-append_right f m.waiting m.taken, IsIn-from_filter, IsIn-append_cases f m.waiting, was_taken f))
    (λ f h. (outbox_of s).unused f (IsIn-append_right f m.waiting m.taken (was_taken f h)))
    (λ f. omega (arith, times-append f m.waiting m.taken, times-append f m.waiting (without file m.taken), times_without f file m.taken (AreDistinct-right m.waiting m.taken (outbox_of s).apart) there))

-- of an Undeleted
pub undeleted_settled : (m : State) (file : ℕ) → IsSound m → list_any (λ f. eqb f file) m.taken ≡ true → IsSettled m (record m { taken = without file m.taken; waiting = m.waiting ++ file ∷ [] }) [] [] []
undeleted_settled m file s there =
    let q = IsIn-from_list_any (λ g. eqb g file) m.taken there in
    let front : List ℕ = m.waiting ++ file ∷ [] in
    let left : List ℕ = without file m.taken in
    record {
      even = λ f. refl;
      were = λ f h. absurd h;
      out = λ f h. absurd h;
      gone = λ f h. absurd h;
      flows = λ f.
          let once = times_without f file m.taken (AreDistinct-right m.waiting m.taken (outbox_of s).apart) there in
          omega (arith, times-append f m.waiting m.taken, times-append f front left, times-append f m.waiting (file ∷ []), once);
      stays = λ f h. inl (let right = IsIn-append_right f m.waiting (file ∷ []) in
          let ahead = IsIn-append_left f m.waiting (file ∷ []) in
          let cases = IsIn-append_cases f m.waiting m.taken h in
          grind (arith, common_steps, IsIn-append_left f front left, IsIn-append_right f front left, ahead, right, reported_or_taken f file m.taken, cases));
      comes = λ f h. inl (let stayed = IsIn-from_filter (λ g. not (eqb g file)) f m.taken in
          let in_front = IsIn-append_cases f m.waiting (file ∷ []) in
          let behind = IsIn-append_right f m.waiting m.taken in
          grind (arith, common_steps, IsIn-append_left f m.waiting m.taken, behind, eqb-true q.0 file q.2, q.1, stayed, in_front, IsIn-append_cases f front left h));
    }

-- a refused call registers, hands out and deletes nothing
pub refused_registers : (m : State) (call : Call) (why : Refusal) → registers m call (Refused why) ≡ []
refused_registers m call why = grind (arith, common_steps)

pub refused_hands : (m : State) (call : Call) → hands m call m ≡ drop (length m.waiting) m.waiting
refused_hands m call = grind (arith, common_steps, drop_all)

pub refused_deletes : (call : Call) (why : Refusal) → deletes call (Refused why) ≡ []
refused_deletes call why = grind (arith, common_steps)
