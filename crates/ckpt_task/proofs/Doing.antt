-- What is done after a turn is what the turn takes, puts and tells.
use Rattle.ckpt_task.proofs.Names.{◌≡◌, ℕ, ◌+◌, Bool, true, false, List, ◌∷◌, ◌++◌, ◌∙◌, refl, sym, ap, subst, arith, if◌then◌else◌, Option, Some, None, Ok, Err, inl, inr, [], ◌==◌, ◌&&◌}
use Rattle.ckpt_task.proofs.Names.{MatchBool, map, length, Result, both_ways, common_steps, append-nil, append_assoc, Alignment, Item, Element, after, is_taken, sent, taken, Answer, Refusal}
use Rattle.ckpt_task.proofs.Names.{Emitted, Program, Turn, Offered, GivenUp, Drawn, Ended, actions, on_output, Transaction, taken_sendings, Deed, Came, Took, Sent, Next, Outcome, Word}
use Rattle.ckpt_task.proofs.Names.{Declines, after_sends, as_came, came_in, deeds_after, last_on, sent_in, taken_in, told_in, words_of, Around, HasRun, HasTurned, IsKept, IsKeptBy, Kept}
use Rattle.ckpt_task.proofs.Names.{Waits, acknowledged, kept_in, Saved, At, IsSaved, abandoned_as, abandoned_in, answer_in, as_turn, cut_in, cut_of, is_held, is_left, put_on, puts}
use Rattle.ckpt_task.proofs.Names.{refusal_as, refusals_of, takes, turned}
use Rattle.ckpt_task.proofs.Working.{at_as, puts_is, takes_is, turned_is}
use Rattle.ckpt_align.specs.declared.event.Answer.TheVariants as answer
use Rattle.ckpt_task.specs.declared.turn.Outcome.TheVariants as outcome

-- elements that are sent

pub came_sends : (es : List Emitted) (l : List Deed) → came_in (after_sends es l) ≡ came_in l
came_sends [] l = refl
came_sends (e ∷ es) l = came_sends es (Sent e.output e.element ∷ l)

pub taken_sends : (j : ℕ) (es : List Emitted) (l : List Deed) → taken_in j (after_sends es l) ≡ taken_in j l
taken_sends j [] l = refl
taken_sends j (e ∷ es) l = taken_sends j es (Sent e.output e.element ∷ l)

told_sends : (es : List Emitted) (l : List Deed) → told_in (after_sends es l) ≡ told_in l
told_sends [] l = refl
told_sends (e ∷ es) l = told_sends es (Sent e.output e.element ∷ l)

sends_by : (b : Bool) (x : ℕ) (before : List Item) (xs : List ℕ) → (before ++ (if b then Element x ∷ [] else [])) ++ map Element xs ≡ before ++ map Element (if b then x ∷ xs else xs)
sends_by true x before xs = append_assoc before (Element x ∷ []) (map Element xs)
sends_by false x before xs = ap (λ l. l ++ map Element xs) (append-nil before)

sent_sends : (c : ℕ) (es : List Emitted) (l : List Deed) → sent_in c (after_sends es l) ≡ sent_in c l ++ map Element (on_output c es)
sent_sends c [] l = sym (append-nil (sent_in c l))
sent_sends c (e ∷ es) l = sent_sends c es (Sent e.output e.element ∷ l) ∙ sends_by (e.output == c) e.element (sent_in c l) (on_output c es)

-- what is done after an outcome

came_after : (o : Outcome) (l : List Deed) → came_in (deeds_after o l) ≡ came_in l
came_after (outcome.Moved ones) l = came_sends ones.items (Took ∷ l)
came_after outcome.Held l = refl
came_after outcome.Nothing l = refl
came_after (outcome.Cut n) l = refl
came_after (outcome.Unsaved n) l = refl
came_after (outcome.Abandoned n) l = refl

taken_after : (j : ℕ) (o : Outcome) (l : List Deed) → taken_in j (deeds_after o l) ≡ taken_in j l ++ (if is_held o then [] else last_on j (came_in l))
taken_after j (outcome.Moved ones) l = taken_sends j ones.items (Took ∷ l)
taken_after j outcome.Held l = sym (append-nil (taken_in j l))
taken_after j outcome.Nothing l = refl
taken_after j (outcome.Cut n) l = refl
taken_after j (outcome.Unsaved n) l = refl
taken_after j (outcome.Abandoned n) l = refl

sent_after : (c : ℕ) (o : Outcome) (l : List Deed) → sent_in c (deeds_after o l) ≡ sent_in c l ++ put_on c o
sent_after c (outcome.Moved ones) l = sent_sends c ones.items (Took ∷ l)
sent_after c outcome.Held l = sym (append-nil (sent_in c l))
sent_after c outcome.Nothing l = sym (append-nil (sent_in c l))
sent_after c (outcome.Cut n) l = refl
sent_after c (outcome.Unsaved n) l = refl
sent_after c (outcome.Abandoned n) l = sym (append-nil (sent_in c l))

told_after : (o : Outcome) (l : List Deed) → told_in (deeds_after o l) ≡ words_of o ++ told_in l
told_after (outcome.Moved ones) l = told_sends ones.items (Took ∷ l)
told_after outcome.Held l = refl
told_after outcome.Nothing l = refl
told_after (outcome.Cut n) l = refl
told_after (outcome.Unsaved n) l = refl
told_after (outcome.Abandoned n) l = refl

-- what a turn takes is what came, unless it is held

takes_by : (b h : Bool) (item : Item) (more : List Item) (one : Result Answer Refusal) → refusal_as (Some one) ≡ None → h ≡ is_left (Some one) → more ≡ []
    → (if b && is_taken one then item ∷ [] else []) ++ more ≡ (if h then [] else (if b then item ∷ [] else []))
takes_by b h item more (Ok answer.Hold) e is none = grind (arith, common_steps)
takes_by b h item more (Ok answer.Process) e is none = grind (arith, common_steps)
takes_by b h item more (Ok answer.Nothing) e is none = grind (arith, common_steps)
takes_by b h item more (Ok answer.Wait) e is none = grind (arith, common_steps)
takes_by b h item more (Ok answer.Late) e is none = grind (arith, common_steps)
takes_by b h item more (Ok (answer.Cut n)) e is none = grind (arith, common_steps)
takes_by b h item more (Ok (answer.Abandon n)) e is none = grind (arith, common_steps)
takes_by b h item more (Err why) e is none = grind (arith, common_steps)

none_by : (h : Bool) (more : List Item) → more ≡ [] → more ≡ (if h then [] else [])
none_by true more e = e
none_by false more e = e

pub takes_last : (p : Program) (m : At) (turn : Turn) (turns : List Turn) (j : ℕ) (h : Bool) → refusal_as (answer_in m.alignment turn) ≡ None → h ≡ is_left (answer_in m.alignment turn)
    → takes p m turn j ≡ (if h then [] else last_on j (turn ∷ turns))
takes_last p m (Offered i item) turns j h e is = grind (arith, common_steps, taken_sendings, takes_by)
takes_last p m (GivenUp id) turns j h e is = grind (arith, common_steps, none_by, taken_sendings)
takes_last p m Drawn turns j h e is = grind (arith, common_steps, none_by, taken_sendings)
takes_last p m Ended turns j h e is = grind (arith, common_steps, none_by, taken_sendings)

-- what is kept

abbrev kept_after : List Saved → List ℕ → List Word → Kept
kept_after saved refused told = record { saved = saved; refused = refused; told = told }

same_kept : (k l : Kept) → l.saved ≡ k.saved → l.refused ≡ k.refused → l.told ≡ k.told → l ≡ k
same_kept k l e f g = ap (λ s. kept_after s l.refused l.told) e ∙ ap (λ r. kept_after k.saved r l.told) f ∙ ap (λ t. kept_after k.saved k.refused t) g

kept_by : (o : Outcome) (s : ℕ) (waiting : List Transaction) (k l : Kept) → IsSaved o s waiting k.saved l.saved → l.refused ≡ refusals_of o ++ k.refused → l.told ≡ words_of o ++ k.told
    → IsKeptBy (cut_in o) (abandoned_in o) s waiting k l
kept_by (outcome.Moved ones) s waiting k l saved refused told = same_kept k l saved refused told
kept_by outcome.Held s waiting k l saved refused told = same_kept k l saved refused told
kept_by outcome.Nothing s waiting k l saved refused told = same_kept k l saved refused told
kept_by (outcome.Cut n) s waiting k l saved refused told = inl (same_kept (acknowledged (record { id = n; state = s; waiting = waiting }) k) l saved refused told)
kept_by (outcome.Unsaved n) s waiting k l saved refused told = inr (record { saved = saved; refused = refused; told = told })
kept_by (outcome.Abandoned n) s waiting k l saved refused told = same_kept (kept_after k.saved k.refused (Declines n ∷ k.told)) l saved refused told

kept_as : (o : Outcome) (cut given : Option ℕ) (s : ℕ) (waiting : List Transaction) (k l : Kept) → cut_in o ≡ cut → abandoned_in o ≡ given
    → IsKeptBy (cut_in o) (abandoned_in o) s waiting k l → IsKeptBy cut given s waiting k l
kept_as o cut given s waiting k l e f is = grind (arith, common_steps)

-- one turn

-- what the clauses of a turn say, with what was done after it
pub record DoesTurn (p : Program) (waiting : List Transaction) (x y : Around) (next : Next) (o : Outcome) : Type 0 where
  pub deeds : y.deeds ≡ deeds_after o (Came next ∷ x.deeds)
  pub task : y.task ≡ turned p x.task (as_turn next)
  pub put : (c : ℕ) → put_on c o ≡ puts p x.task (as_turn next) c
  pub held : is_held o ≡ is_left (answer_in x.task.alignment (as_turn next))
  pub cut : cut_in o ≡ cut_of x.task.alignment (as_turn next)
  pub abandoned : abandoned_in o ≡ abandoned_as (answer_in x.task.alignment (as_turn next))
  pub answered : refusal_as (answer_in x.task.alignment (as_turn next)) ≡ None
  pub saved : IsSaved o x.task.state waiting x.saved y.saved
  pub refused : y.refused ≡ refusals_of o ++ x.refused

pub turned_as : (p : Program) (waits : Turn → List Transaction) (x y : Around) (next : Next) (o : Outcome) → DoesTurn p (waits (as_turn next)) x y next o → (h : HasTurned p waits x y) × (h.turn ≡ as_turn next)
turned_as p waits x y next o does =
    let turn : Turn = as_turn next in
    let came : List Deed = Came next ∷ x.deeds in (
      record {
        turn = turn;
        came = ap came_in does.deeds ∙ came_after o came;
        task = does.task;
        taken_on = λ j. ap (taken_in j) does.deeds ∙ taken_after j o came ∙ ap (λ l. taken_in j x.deeds ++ l) (sym (takes_last p x.task turn (came_in x.deeds) j (is_held o) does.answered does.held));
        sent_on = λ c. ap (sent_in c) does.deeds ∙ sent_after c o came ∙ ap (λ l. sent_in c x.deeds ++ l) (does.put c);
        kept =
            kept_as o (cut_of x.task.alignment turn) (abandoned_as (answer_in x.task.alignment turn)) x.task.state (waits turn) (kept_in x) (kept_in y) does.cut does.abandoned
            (kept_by o x.task.state (waits turn) (kept_in x) (kept_in y) does.saved does.refused (ap told_in does.deeds ∙ told_after o came));
      },
      refl,
    )

pub has_turned : (p : Program) (waits : Turn → List Transaction) (x y : Around) (next : Next) (o : Outcome) → DoesTurn p (waits (as_turn next)) x y next o → HasTurned p waits x y
has_turned p waits x y next o does = (turned_as p waits x y next o does).0

-- a run

pub not_run_as : (p : Program) (waits : Waits) (x : Around) → (h : HasRun p waits 0 x x) × (h.turns ≡ [])
not_run_as p waits x = (
  record {
    turns = [];
    count = refl;
    came = refl;
    task = refl;
    taken_on = λ j. sym (append-nil (taken_in j x.deeds));
    sent_on = λ c. sym (append-nil (sent_in c x.deeds));
    kept = refl;
  },
  refl,
)

pub has_not_run : (p : Program) (waits : Waits) (x : Around) → HasRun p waits 0 x x
has_not_run p waits x = (not_run_as p waits x).0

pub run_as : (p : Program) (waits : Waits) (now : Turn → List Transaction) (n : ℕ) (x y z : Around) (run : HasRun p waits n x y) (one : HasTurned p now y z) → now one.turn ≡ waits (one.turn ∷ run.turns) → (h : HasRun p waits (n + 1) x z) × (h.turns ≡ one.turn ∷ run.turns)
run_as p waits now n x y z run one same =
    let s : ℕ = x.task.state in
    let a : Alignment = x.task.alignment in
    let turns : List Turn = run.turns in
    let turn : Turn = one.turn in (
      record {
        turns = turn ∷ turns;
        count = counts turn turns n run.count;
        came = one.came ∙ ap (λ l. turn ∷ l) run.came;
        task = one.task ∙ ap (λ (m : At). turned p m turn) run.task ∙ turned_is p s a turns turn;
        taken_on = λ j.
            one.taken_on j
            ∙ ap (λ l. l ++ takes p y.task turn j) (run.taken_on j)
            ∙ append_assoc (taken_in j x.deeds) (taken j a (actions p s a turns)) (takes p y.task turn j)
            ∙ ap (λ (m : At). taken_in j x.deeds ++ (taken j a (actions p s a turns) ++ takes p m turn j)) run.task
            ∙ ap (λ l. taken_in j x.deeds ++ l) (sym (takes_is j p s a turns turn));
        sent_on = λ c.
            one.sent_on c
            ∙ ap (λ l. l ++ puts p y.task turn c) (run.sent_on c)
            ∙ append_assoc (sent_in c x.deeds) (sent c a (actions p s a turns)) (puts p y.task turn c)
            ∙ ap (λ (m : At). sent_in c x.deeds ++ (sent c a (actions p s a turns) ++ puts p m turn c)) run.task
            ∙ ap (λ l. sent_in c x.deeds ++ l) (sym (puts_is c p s a turns turn));
        kept = (kept_in y, run.kept, subst (λ (m : At). IsKeptBy (cut_of m.alignment turn) (abandoned_as (answer_in m.alignment turn)) m.state (waits (turn ∷ turns)) (kept_in y) (kept_in z)) run.task (subst (λ (w : List Transaction). IsKept y.task w turn (kept_in y) (kept_in z)) same one.kept));
      },
      refl,
    )
  where
    counts : (turn : Turn) (turns : List Turn) (n : ℕ) → length turns ≡ n → length (turn ∷ turns) ≡ n + 1
    counts turn turns n e = grind (arith, common_steps)

pub runs_more : (p : Program) (waits : Waits) (now : Turn → List Transaction) (n : ℕ) (x y z : Around) (run : HasRun p waits n x y) (one : HasTurned p now y z) → now one.turn ≡ waits (one.turn ∷ run.turns) → HasRun p waits (n + 1) x z
runs_more p waits now n x y z run one same = (run_as p waits now n x y z run one same).0

pub same_at : (m n : At) → m.state ≡ n.state → m.alignment ≡ n.alignment → m ≡ n
same_at m n e f = ap (λ s. at_as s m.alignment) e ∙ ap (λ (a : Alignment). at_as n.state a) f

pub came_next : (deeds before : List Deed) (one : Option Next) (next : Next) → deeds ≡ as_came one ++ before → one ≡ Some next → deeds ≡ Came next ∷ before
came_next deeds before one next e is = e ∙ ap (λ o. as_came o ++ before) is

pub by_true : {X : Type 0} (Y : Type 0) (b : Bool) → b ≡ true → MatchBool b X Y → X
by_true Y true e k = k
by_true Y false e k = absurd (both_ways true (sym e) refl)
