use Rattle.ipx_router.proofs.OneAnswer.{Facts}
use Rattle.ipx_router.proofs.OneContent.{same_known}
use Rattle.ipx_router.proofs.OneTelling.{telling_one}
use Rattle.ipx_router.proofs.laws.advertisements_are_determined.Goals as goal

pub returns-clause-packets : goal.returns-clause-packets
returns-clause-packets c =
    let facts : Facts = record {
      one_ipx = c.bytes_are_one_packet.ensures;
      one_rip = c.bytes_are_one_rip.ensures;
      one_sap = c.bytes_are_one_sap.ensures;
      ipx_bytes = c.packet_is_one_list_of_bytes.ensures;
      rip_bytes = c.rip_is_one_list_of_bytes.ensures;
      sap_bytes = c.sap_is_one_list_of_bytes.ensures;
      one_best = c.one_best.ensures;
      routes_count = c.content_counts.ensures;
      services_count = c.content_counts-2.ensures;
    } in
    telling_one facts

pub returns-clause-holds : goal.returns-clause-holds
returns-clause-holds c = same_known
