-- The state that a call leaves.
use Rattle.ckpt_locked.proofs.Names.{Agrees, All, All-nil, All-push, Answer, Asked, Base, Call, CameTo, Claim, Entry, GivenBack, Hand, History, IsIdle, List, Lock, Made, Sat, SeatsBelow, SeenIn}
use Rattle.ckpt_locked.proofs.Names.{StartsWith, [], answer_to, ap, append_assoc, arith, calls_by, claim, drop, drop-append_seam, entry, grown, hand, idle, kept, later_in, length, length-append}
use Rattle.ckpt_locked.proofs.Names.{newcomer, newcomers, refl, subst, suc, sym, zero, ℕ, ◌++◌, ◌+◌, ◌<◌, ◌^◌, ◌∙◌, ◌∷◌, ◌≡◌}
use Rattle.ckpt_locked.proofs.SeatLists.{all_front, all_last, calls_by-same, length-calls_by}
use Rattle.atomic_table.specs.Seated.{TableId}

pub idle_is : (m : Sat) (d : Claim) (number calls : ℕ) → m ≡ (idle d, []) → d.number ≡ number → length d.own ≡ calls → calls_by number d.later ≡ d.own → IsIdle m number calls
idle_is m d number calls e is long own = rw e (refl, is, long, own)

-- the claim once the call is in the book
abbrev pub called : Claim → List Entry → Call → Claim
called c found call = claim c.base c.number (found ++ entry c.number call ∷ []) (c.own ++ call ∷ [])

own_more : (c : Claim) (found : List Entry) (call : Call) → calls_by c.number found ≡ c.own → calls_by c.number (found ++ entry c.number call ∷ []) ≡ c.own ++ call ∷ []
own_more c found call own = calls_by-same c.number found (entry c.number call) refl ∙ ap (λ (l : List Call). l ++ call ∷ []) own

module _ (before now : Sat) (number calls : ℕ) (t : ℕ) (was : IsIdle before number calls) (came : CameTo before.0.mine t now) where
  -- the seat after its call, from the seat when its turn came
  pub called_is : (mid after : Sat) (x call : Call) (answer : Answer) → x ≡ call → Asked now t number call mid answer → after ≡ (idle (grown mid.0.mine (mid.0.found ++ entry number x ∷ [])), [])
      → after ≡ (idle (called before.0.mine now.0.found call), [])
  called_is mid after x call answer is asked e = e ∙ rw (is, asked.0, came.1, ← was.1, own_more before.0.mine now.0.found call came.3)

  pub fits : length now.0.found + 1 < 2 ^ 64 → calls + 1 < 2 ^ 64
  fits room = omega (arith, ap (λ (l : List Call). length l) came.3, was.2, length-calls_by before.0.mine.number now.0.found)

  pub still_idle : (after : Sat) (call : Call) → after ≡ (idle (called before.0.mine now.0.found call), []) → IsIdle after number (calls + 1)
  still_idle after call e =
      let c = before.0.mine in
      let found = now.0.found in
      idle_is after (called c found call) number (calls + 1) e was.1 (omega (arith, was.2, length-append c.own (call ∷ [])))
      (subst (λ (n : ℕ). calls_by n (found ++ entry c.number call ∷ []) ≡ c.own ++ call ∷ []) was.1 (own_more c found call came.3))

made_at : (id : TableId) (c : Claim) (found : List Entry) (book : History) (call : Call) (answer : Answer) → book ≡ kept c.base found → StartsWith found c.later → calls_by c.number found ≡ c.own
    → answer ≡ answer_to book call → Made (hand id c) call (hand id (called c found call)) answer
made_at id c found book call answer is starts own answered =
    let p = c.base.book.entries in
    let whole : p ++ found ≡ (p ++ c.later) ++ starts.0 = rw (starts.1, append_assoc) in
    record {
      same = (refl, refl);
      between = starts.0;
      seen_is = sym (append_assoc p found (entry c.number call ∷ [])) ∙ ap (λ (l : List Entry). l ++ entry c.number call ∷ []) whole;
      answer_is = answered ∙ ap (λ (h : History). answer_to h call) (is ∙ ap (λ (l : List Entry). record c.base.book { entries = l }) whole);
      own_is = refl;
      all_own = own_more c found call own;
    }

pub made : (pass : Hand) (id id' : TableId) (before now after : Sat) (call : Call) (answer : Answer) (t : ℕ) → hand id before.0.mine ≡ pass → id' ≡ id → CameTo before.0.mine t now
    → after ≡ (idle (called before.0.mine now.0.found call), []) → answer ≡ answer_to (kept now.0.mine.base now.0.found) call → Made pass call (hand id' after.0.mine) answer
made pass id id' before now after call answer t is same came e answered =
    rw (← is, same, e)
    (made_at id before.0.mine now.0.found (kept now.0.mine.base now.0.found) call answer (ap (λ (x : Claim). kept x.base now.0.found) came.1) came.2 came.3 answered)

pub length-newcomers : (lock : Lock) (n : ℕ) → length (newcomers lock n) ≡ n
length-newcomers lock zero = refl
length-newcomers lock (suc n) = let before = length-newcomers lock n in omega (arith, length-append (newcomers lock n) (newcomer lock n ∷ []))

pub newcomers_are : (lock : Lock) (n : ℕ) → All (λ (h : Hand). h.lock ≡ lock) (newcomers lock n)
newcomers_are lock zero = All-nil (λ (h : Hand). h.lock ≡ lock)
newcomers_are lock (suc n) = All-push (λ (h : Hand). h.lock ≡ lock) (newcomers lock n) (newcomer lock n) (newcomers_are lock n) refl

-- the lock's base is that of each of its passes
agrees : (lock : Lock) (book : History) (found : List Entry) (h : Hand) → h.lock ≡ lock → book.entries ≡ lock.base.book.entries ++ found → later_in lock book ≡ found → SeenIn found h
    → Agrees lock book h
agrees lock book found h of whole later seen_in = ((seen_in.0.0, whole ∙ rw (seen_in.0.1, of, append_assoc)), ap (calls_by h.seat) later ∙ seen_in.1)

pub given_back : (lock : Lock) (book : History) (others : List Hand) (pass : Hand) (id : TableId) (before now : Sat) (t : ℕ) → hand id before.0.mine ≡ pass → CameTo before.0.mine t now
    → book ≡ kept now.0.mine.base now.0.found → All (λ (h : Hand). h.lock ≡ lock) (others ++ pass ∷ []) → All (SeenIn now.0.found) others → GivenBack lock book (others ++ pass ∷ [])
given_back lock book others pass id before now t is came held of seen_in =
    let found = now.0.found in
    let mine : pass.lock ≡ lock = all_last (λ (h : Hand). h.lock ≡ lock) others pass of in
    let base : before.0.mine.base ≡ lock.base = ap (λ (h : Hand). h.lock.base) is ∙ ap (λ (k : Lock). k.base) mine in
    let book_is : book ≡ kept lock.base found = held ∙ ap (λ (b : Base). kept b found) (ap (λ (x : Claim). x.base) came.1 ∙ base) in
    let whole : book.entries ≡ lock.base.book.entries ++ found = ap (λ (k : History). k.entries) book_is in
    let later : later_in lock book ≡ found = ap (λ (l : List Entry). drop (length lock.base.book.entries) l) whole ∙ drop-append_seam lock.base.book.entries found in
    record {
      book_is = book_is ∙ ap (kept lock.base) (sym later);
      seats = rw later (subst (λ (b : Base). SeatsBelow b.seats found) base came.4);
      agree = All-push (Agrees lock book) others pass
          (λ k d lt. agrees lock book found _ (all_front (λ (h : Hand). h.lock ≡ lock) others (pass ∷ []) of k d lt) whole later (seen_in k d lt))
          (agrees lock book found pass mine whole later (rw (← is) (came.2, came.3)));
    }
