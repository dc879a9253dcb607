-- Answers the goals of `ThreadsTeam::make`.
use Rattle.ckpt_workers.proofs.{Answer, Base, IsDealOf-worked, IsTallied, IsTeamwork, IsTeamwork-threads, List, Lock, Report, Share, ap, arith, crosses, length, length-map, length-newcomers}
use Rattle.ckpt_workers.proofs.{locked_sync, map, newcomers, reports_are, sendable, shares_are, subst, sym, ◌<◌, ◌∙◌, ◌≡◌}
use Rattle.std.proofs.lemmas.Simd.{map-map}
use Rattle.std.specs.declared.alloc.Global.{Global}
use Rattle.std.specs.declared.vec.Vec.{Vec}
use Rattle.ckpt_workers.proofs.threads.ThreadsTeam.make.Goals as goal

-- the answers of these reports
hands_are : (reports : List Report) (answers : List (Vec Answer Global)) → answers ≡ map (λ (r : Report). r.answers) reports
    → map (λ (a : Vec Answer Global). a.items) answers ≡ map (λ (r : Report). r.answers.items) reports
hands_are reports answers are = ap (map (λ (a : Vec Answer Global). a.items)) are ∙ map-map (λ (a : Vec Answer Global). a.items) (λ (r : Report). r.answers) reports

pub deal-requires : goal.deal-requires
deal-requires g c =
    let some : 0 < c.args.threads = c.requires.threads.0 in
    record { some = omega (arith, some, ap length c.in_ok-lock.ensures.passes, length-newcomers c.in_ok-lock.lock c.args.threads) }

pub spread-requires-sync-G : goal.spread-requires-sync-G
spread-requires-sync-G g c κs within = search (locked_sync, sendable, crosses) depth 20

pub spread-requires-clause-passes : goal.spread-requires-clause-passes
spread-requires-clause-passes g c κs within =
    shares_are c.in_ok-lock.lock c.args.threads c.in_ok-shares.shares.items (c.in_ok-shares.ensures.passes ∙ c.in_ok-lock.ensures.passes)

pub close-requires : goal.close-requires
close-requires g c =
    let shares = c.in_ok-shares.shares in
    let reports = c.in_ok-reports.reports in
    record {
      passes =
          reports_are shares.items reports.items (omega (arith, c.in_ok-reports.ensures.count, shares.ok, reports.ok)) c.in_ok-reports.ensures.each c.in_ok-lock.lock c.in_ok-passes.passes.items
          (shares_are c.in_ok-lock.lock c.args.threads shares.items (c.in_ok-shares.ensures.passes ∙ c.in_ok-lock.ensures.passes)) c.in_ok-passes.ensures.passes;
    }

pub unreachable-requires : goal.unreachable-requires
unreachable-requires g c =
    let lock : Lock = c.in_ok-lock.lock in
    let shares = c.in_ok-shares.shares in
    let reports = c.in_ok-reports.reports in
    let passes = c.in_ok-passes.passes.items in
    let many : length reports.items ≡ length shares.items = omega (arith, c.in_ok-reports.ensures.count, shares.ok, reports.ok) in
    let first : length shares.items ≡ length (newcomers lock c.args.threads) =
    sym (length-map shares.items (λ (s : Share). s.pass)) ∙ ap length (c.in_ok-shares.ensures.passes ∙ c.in_ok-lock.ensures.passes) in
    let last : length passes ≡ length reports.items = ap length c.in_ok-passes.ensures.passes ∙ length-map reports.items (λ (r : Report). r.pass) in
    let seats : lock.base.seats ≡ c.args.threads = ap (λ (l : Lock). l.base.seats) c.in_ok-lock.ensures.lock in
    let missing : length passes < lock.base.seats = c.in_default.ensures.missing in
    absurd (omega (arith, length-newcomers lock c.args.threads))

pub counted-requires-clause-dealt : goal.counted-requires-clause-dealt
counted-requires-clause-dealt g c =
    let shares = c.in_ok-shares.shares in
    let reports = c.in_ok-reports.reports in
    IsDealOf-worked shares.items reports.items (omega (arith, c.in_ok-reports.ensures.count, shares.ok, reports.ok)) c.in_ok-reports.ensures.each c.args.calls.items _ c.len-count.result
    c.in_ok-shares.ensures.calls (hands_are reports.items _ (c.deref.ensures.value ∙ c.in_ok-passes.ensures.answers)) (omega (arith, c.len-count.ensures, c.args.calls.ok))

pub returns : goal.returns
returns g c =
    let lock : Lock = c.in_ok-lock.lock in
    let shares = c.in_ok-shares.shares in
    let reports = c.in_ok-reports.reports in
    let calls = c.args.calls.items in
    let made = c.counted.result in
    let many : length reports.items ≡ length shares.items = omega (arith, c.in_ok-reports.ensures.count, shares.ok, reports.ok) in
    let count : c.len-count.result ≡ length calls = omega (arith, c.len-count.ensures, c.args.calls.ok) in
    let is : lock.base ≡ record { book = c.args.book; seats = c.args.threads } = ap (λ (l : Lock). l.base) c.in_ok-lock.ensures.lock in
    let passes : map (λ (s : Share). s.pass) shares.items ≡ newcomers lock lock.base.seats =
    c.in_ok-shares.ensures.passes ∙ c.in_ok-lock.ensures.passes ∙ ap (λ (b : Base). newcomers lock b.seats) (sym is) in
    let back = rw c.in_ok-passes.ensures.passes at c.in-Ok.ensures.book in
    let tallied : IsTallied (map (λ (r : Report). r.answers.items) reports.items) (length calls) made =
    rw (← count, ← hands_are reports.items _ (c.deref.ensures.value ∙ c.in_ok-passes.ensures.answers)) c.counted.ensures.tallied in
    let work = IsTeamwork-threads lock shares.items reports.items c.in-Ok.book passes many c.in_ok-reports.ensures.each back calls made c.in_ok-shares.ensures.calls c.counted.ensures.book tallied in
    record { made = subst (λ (b : Base). IsTeamwork b.book calls b.seats made) is work }
