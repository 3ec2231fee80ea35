use Rattle.std.proofs.Common.{◌≡◌}
use Rattle.ipx_router.specs.RouterPackets.{sendings}
use Rattle.ipx_net.specs.Parcels.{parcel_views}
use Rattle.ipx_net.specs.RouterMembers.{letters_of}
use Rattle.ipx_net.proofs.routers.post_all.Given as goal

abbrev pub invariant-loop-reply : goal.invariant-loop-reply
invariant-loop-reply l =
    (goal.iterator-loop-reply).can_next l.reply-iterator ×
    (goal.iterator-loop-reply).is_finite l.reply-iterator ×
    (parcel_views l.parcels.items ≡ letters_of l.router l.ports (sendings l.yielded))
