use Rattle.std.proofs.Common.{inr, length, refl}
use Rattle.std.proofs.lemmas.List.{length-map}
use Rattle.std.proofs.lemmas.Option.{slice_get_read}
use Rattle.ipx_router.specs.RouterPackets.{sending_of, sendings}
use Rattle.ipx_net.specs.StepResultView.{step_result_view}
use Rattle.ipx_net.specs.EventMemory.{RouterPollNeedsMemory}
use Rattle.ipx_net.proofs.Wanting.{of_list, told_of_some}
use Rattle.ipx_net.proofs.routing.poll_member.Goals as goal

pub returns-clause-memory : goal.returns-clause-memory
returns-clause-memory c =
    let r = c.index-routers-router.result in
    let sent = sendings c.in_ok-replies.replies.items in
    λ made. of_list (λ x. RouterPollNeedsMemory x c.args.now) c.args.routers.now c.args.router r (slice_get_read c.args.routers.now (length c.args.routers.now) c.args.router r refl c.requires c.index-routers-router.is)
    (inr (inr (_, sent, rw (← c.index-routers-router.is) at c.in_ok-replies.ensures.polled, told_of_some (step_result_view c.in_ok-growth.growth) c.args.router _ c.args.first sent c.in_ok-growth.ensures.grows made)))

pub returns-clause-polled : goal.returns-clause-polled
returns-clause-polled c =
    let r = c.index-routers-router.result in
    record {
      before = r;
      there = slice_get_read c.args.routers.now (length c.args.routers.now) c.args.router r refl c.requires c.index-routers-router.is;
      after = c.poll_router.new.member;
      sent = sendings c.in_ok-replies.replies.items;
      polled = rw (← c.index-routers-router.is) at c.in_ok-replies.ensures.polled;
      own = c.in_ok-replies.ensures.own;
      grows = rw (c.ports.ensures.ports, c.poll_router.ensures.ports, ← c.index-routers-router.is) at c.in_ok-growth.ensures.grows;
      routers = refl;
    }

pub returns-in_err-replies-clause-memory : goal.returns-in_err-replies-clause-memory
returns-in_err-replies-clause-memory c =
    let r = c.index-routers-router.result in
    λ made. of_list (λ x. RouterPollNeedsMemory x c.args.now) c.args.routers.now c.args.router r (slice_get_read c.args.routers.now (length c.args.routers.now) c.args.router r refl c.requires c.index-routers-router.is)
    (rw (← c.index-routers-router.is) at c.in_err-replies.ensures.refused)

pub returns-in_err-growth-clause-memory : goal.returns-in_err-growth-clause-memory
returns-in_err-growth-clause-memory c =
    let r = c.index-routers-router.result in
    let replies = c.in_ok-replies.replies.items in
    λ made. of_list (λ x. RouterPollNeedsMemory x c.args.now) c.args.routers.now c.args.router r (slice_get_read c.args.routers.now (length c.args.routers.now) c.args.router r refl c.requires c.index-routers-router.is)
    (inr (inr (_, sendings replies, rw (← c.index-routers-router.is) at c.in_ok-replies.ensures.polled, rw (length-map replies sending_of) c.in_err-growth.ensures.refused)))
