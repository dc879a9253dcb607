-- Answers the goals of `Book::core`.
use Rattle.ckpt_locked.proofs.{AreCalls, History, IsHistory, IsSound, ap, calls_of, exactly_one, subst, sym, ◌∙◌, ◌∷◌, ◌≡◌}
use Rattle.ckpt_locked.specs.Books.{state_of_book}
use Rattle.ckpt_model.proofs.Histories.Replays.{calls-split}
use Rattle.ckpt_locked.proofs.book.Book.core.Goals as goal

-- the laws are about each opening and list; these are the book's
its_history : (c : goal.After-self) → IsHistory c.args.self.now
its_history c = subst IsHistory c.self.view_is c.self.invariant.history

its_state_is_sound : (c : goal.After-self) → IsSound (state_of_book c.args.self.now)
unfolding state_of_book
its_state_is_sound c = let h : History = c.args.self.now in c.sound.ensures h.opening (calls_of h.entries) (its_history c).can_open (its_history c).are_calls

pub returns-clause-sound : goal.returns-clause-sound
returns-clause-sound c =
    let core_is : c.self.inside.core ≡ state_of_book c.args.self.now = c.self.invariant.is_replay ∙ ap state_of_book c.self.view_is in
    subst IsSound (sym core_is) (its_state_is_sound c)

pub returns-clause-full : goal.returns-clause-full
returns-clause-full c = λ r there done. ((returns-clause-sound c).records.each r there).full done

pub returns-clause-exactly_one : goal.returns-clause-exactly_one
returns-clause-exactly_one c =
    let h : History = c.args.self.now in exactly_one h (its_state_is_sound c) (c.acknowledgements.ensures h.opening (calls_of h.entries) (its_history c).can_open (its_history c).are_calls)

pub returns-clause-balance : goal.returns-clause-balance
returns-clause-balance c = let h : History = c.args.self.now in c.balance.ensures h.opening (calls_of h.entries) (its_history c).can_open (its_history c).are_calls

pub returns-clause-handed : goal.returns-clause-handed
returns-clause-handed c = let h : History = c.args.self.now in c.handed.ensures h.opening (calls_of h.entries) (its_history c).can_open (its_history c).are_calls

pub returns-clause-used_no_more : goal.returns-clause-used_no_more
returns-clause-used_no_more c before calls split = c.used_no_more.ensures c.args.self.now.opening before calls (its_history c).can_open (subst AreCalls split (its_history c).are_calls)

pub returns-clause-outbox : goal.returns-clause-outbox
returns-clause-outbox c = let h : History = c.args.self.now in c.outbox.ensures h.opening (calls_of h.entries) (its_history c).can_open (its_history c).are_calls

pub returns-clause-savepoints : goal.returns-clause-savepoints
returns-clause-savepoints c before calls split =
    let both : AreCalls before × AreCalls calls = calls-split before calls (subst AreCalls split (its_history c).are_calls) in
    c.savepoints.ensures c.args.self.now.opening before calls (its_history c).can_open both.0 both.1

pub returns-clause-pinned : goal.returns-clause-pinned
returns-clause-pinned c before call calls split =
    let both : AreCalls before × AreCalls (call ∷ calls) = calls-split before (call ∷ calls) (subst AreCalls split (its_history c).are_calls) in
    c.pinned.ensures c.args.self.now.opening before call calls (its_history c).can_open both.0 both.1.0 both.1.1
