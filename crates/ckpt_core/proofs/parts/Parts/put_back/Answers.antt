-- Answers the goals of `Parts::put_back`.
use Rattle.ckpt_core.proofs.{one_more_waits}
use Rattle.ckpt_core.proofs.{◌≡◌, ℕ, ◌+◌, false, List, [], ◌∷◌, ◌++◌, take, sym, ap, ◌∙◌, ⊎_elim, take_all, take_more, IsIn, is_present, IsIn-append_cases, only_one, or_parts, Parts, known_twice}
use Rattle.ckpt_core.proofs.parts.Parts.put_back.Goals as goal

pub returns-then-knows-clause-damaged : goal.returns-then-knows-clause-damaged
returns-then-knows-clause-damaged c =
    λ e a. let p : Parts = c.args.self.now in let known = rw c.loop-file.invariant.parts at (sym c.knows.ensures ∙ c.if-knows.true) in known_twice p.registry p.outbox.waiting c.args.files.now
    p.outbox.taken c.loop-file.file-index c.file-item.result c.loop-file-test.true c.file-item.is known a

pub loop-file-preserved : goal.loop-file-preserved
loop-file-preserved c =
    let q : Parts = c.loop-file.self in
    let files : List ℕ = c.args.files.now in
    let i : ℕ = c.loop-file.file-index in
    let f : ℕ = c.file-item.result in
    let next : take (i + 1) files ≡ take i files ++ f ∷ [] = take_more files i f c.loop-file-test.true ∙ ap (λ z. take i files ++ z ∷ []) (sym c.file-item.is) in
    record {
      parts = one_more_waits c.args.self.now q (take i files) (take (i + 1) files) f c.put.new.self c.loop-file.invariant.parts c.put.ensures next;
      unused = λ g h.
          let mine : is_present c.args.self.now.registry f ≡ false = rw c.loop-file.invariant.parts at (or_parts (is_present q.registry f) _ (sym c.knows.ensures ∙ c.if-knows.false)).0 in
          ⊎_elim (λ (k : IsIn g (take i files)). c.loop-file.invariant.unused g k) (λ (k : IsIn g (f ∷ [])). rw (only_one g f k) mine) (IsIn-append_cases g (take i files) (f ∷ []) (rw next at h));
    }

pub returns-clause-unused : goal.returns-clause-unused
returns-clause-unused c = λ f h. c.loop-file.invariant.unused f (rw (take_all c.loop-file.file-index c.args.files.now c.loop-file-test.false) h)
