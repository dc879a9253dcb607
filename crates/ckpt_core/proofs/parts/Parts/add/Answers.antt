-- Answers the goals of `Parts::add`.
use Rattle.ckpt_core.proofs.{triggered_state, triggered_tied, undone_state, Names.state_of, Triggering.Chosen.files_chosen-pins, Using.CountBound.registry_bound}
use Rattle.ckpt_core.proofs.{◌≡◌, ℕ, ◌+◌, ◌<◌, not, eqb, List, [], ◌∷◌, ◌++◌, refl, ap, ◌∙◌, arith, filter, Record, Parts, files_chosen, pinned, IsSound, made_record, older_pending, older_uses}
use Rattle.ckpt_core.proofs.parts.Parts.add.Goals as goal

pub choice-choice-requires : goal.choice-choice-requires
unfolding state_of
choice-choice-requires c = c.requires.sound.records.in_order

pub add-requires : goal.add-requires
add-requires c = record { newest = λ r h. let lt : r.id < c.args.self.now.next = older_pending c.args.self.now c.requires.sound r h in let e = ap (λ q. q.id) c.new.ensures in omega arith }

pub pin-requires-clause-below : goal.pin-requires-clause-below
pin-requires-clause-below c = λ f h. registry_bound c.args.self.now c.requires.tied c.requires.sound f

pub pin-requires-clause-unpinned : goal.pin-requires-clause-unpinned
pin-requires-clause-unpinned c = λ u h e k. let lt : u.id < c.args.self.now.next = older_uses c.args.self.now c.requires.tied c.requires.sound u h in omega arith

-- the pins were refused, and the record was taken out again
undone : (p : Parts) (x : Record) (q : Parts) (added left : List Record) → IsSound (state_of p) → x.id ≡ p.next → added ≡ p.pending ++ x ∷ [] → q ≡ record p { pending = added } →
    left ≡ filter (λ r. not (eqb r.id p.next)) q.pending → record q { pending = left } ≡ p
undone p x q added left sound new more same removed =
    let gone : left ≡ filter (λ r. not (eqb r.id p.next)) added = removed ∙ ap (λ (w : Parts). filter (λ r. not (eqb r.id p.next)) w.pending) same in
    ap (λ (w : Parts). record w { pending = left }) same ∙ undone_state p x added left p.registry sound new more gone refl

pub returns-in-Err-clause-err : goal.returns-in-Err-clause-err
returns-in-Err-clause-err c =
    ap state_of (undone c.args.self.now c.new.result c.pin.new.self c.add.new.self c.remove.new.self c.requires.sound (ap (λ q. q.id) c.new.ensures) c.in_ok-add.ensures.ok c.in-Err.ensures.err
    c.remove.ensures.rest)

pub returns-in-Err-clause-tied : goal.returns-in-Err-clause-tied
returns-in-Err-clause-tied c =
    rw (undone c.args.self.now c.new.result c.pin.new.self c.add.new.self c.remove.new.self c.requires.sound (ap (λ q. q.id) c.new.ensures) c.in_ok-add.ensures.ok c.in-Err.ensures.err
    c.remove.ensures.rest) c.requires.tied

pub returns-clause-ok : goal.returns-clause-ok
returns-clause-ok c =
    let files : List ℕ = files_chosen c.choice-choice.result c.args.self.now.registry in
    ap (λ (q : Parts). state_of (record q { next = q.next + 1 })) c.in_default.ensures.ok ∙ triggered_state c.args.self.now c.args.kind files c.new.result c.add.new.self
    (pinned c.args.self.now c.args.self.now.next files).registry c.requires.tied c.requires.sound c.recall_uses.ensures (files_chosen-pins c.args.self.now c.requires.tied c.requires.sound
    c.choice-choice.result c.choice-choice.ensures) (made_record c.args.self.now c.args.kind c.args.shape c.read-started.result c.new.result c.new.ensures c.requires.shape
    c.read-started.ensures.value) c.in_ok-add.ensures.ok refl

pub returns-clause-tied : goal.returns-clause-tied
returns-clause-tied c =
    let p = c.args.self.now in
    let files : List ℕ = files_chosen c.choice-choice.result p.registry in
    rw (ap (λ (q : Parts). record q { next = q.next + 1 }) c.in_default.ensures.ok) (triggered_tied p c.args.kind files c.new.result c.add.new.self (pinned p p.next files).registry c.requires.tied
    c.requires.sound c.recall_uses.ensures (files_chosen-pins p c.requires.tied c.requires.sound c.choice-choice.result c.choice-choice.ensures) (made_record p c.args.kind c.args.shape
    c.read-started.result c.new.result c.new.ensures c.requires.shape c.read-started.ensures.value) c.in_ok-add.ensures.ok refl c.requires.room)
