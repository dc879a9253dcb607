-- Answers the goals of `commit`.
use Rattle.ckpt_locked.proofs.{[], base_of, commits_as, committed_is, entry, grown, kept, passes_as, refl, rules, ◌++◌, ◌∷◌}
use Rattle.ckpt_locked.proofs.steps.commit.Goals as goal

pub fetch_add-requires : goal.fetch_add-requires
fetch_add-requires c =
    let table = c.requires.table in
    let v = c.args.seat.now.me.0 in
    let more = entry c.args._number c.args._call.now.value in
    let here = commits_as _ v.mine c.args.ticket v.found more (kept v.mine.base (v.found ++ more ∷ [])) c.requires.book.1 refl in
    (search rules, search rules, here (base_of c.args.shared.now.key) _ _ c.requires.number c.requires.room)

pub fetch_add-requires-2 : goal.fetch_add-requires-2
fetch_add-requires-2 c =
    let table = c.requires.table in
    let v = c.args.seat.now.me.0 in
    let more = entry c.args._number c.args._call.now.value in
    let log = v.found ++ more ∷ [] in
    let told = committed_is _ v.mine c.args.ticket v.found more (kept v.mine.base log) c.requires.book.1 refl _ c.fetch_add.ensures.2 in
    (search rules, search rules, passes_as (base_of c.args.shared.now.key) _ _ _ (grown v.mine log) c.args.ticket log (kept v.mine.base log) table.1.1 told refl c.requires.book.0)
