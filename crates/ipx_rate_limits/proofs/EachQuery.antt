-- No query escapes the limits.
use Rattle.std.proofs.Common.{◌≡◌, ◌∙◌, ◌⊎◌, ℕ, Bool, true, false, not, List, Some, slice_get, inl, inr, refl, sym, ap, subst, if◌then◌else◌}
use Rattle.std.specs.Prelude.{◌==◌, ◌||◌, ◌&&◌, nat_lt}
use Rattle.std.proofs.lemmas.Bool.{and_parts}
use Rattle.std.proofs.lemmas.Option.{same_Some}
use Rattle.ipx_wire.specs.Assigned.{local_network, netbios_propagation_type}
use Rattle.ipx_wire.specs.Ipx.{BeginsWith, IsIpx, PacketView}
use Rattle.ipx_wire.specs.declared.ipx.packet.IpxHeader.{IpxHeader}
use Rattle.ipx_control.specs.declared.rip.packet.RipEntry.{RipEntry}
use Rattle.ipx_control.specs.Rip.{IsRip, RipView}
use Rattle.ipx_control.specs.Rip as rip
use Rattle.ipx_control.specs.Sap.{IsSap, SapView}
use Rattle.ipx_control.specs.Sap as sap
use Rattle.ipx_router.specs.declared.classify.PacketClass.{PacketClass}
use Rattle.ipx_router.specs.declared.classify.PacketClass.TheVariants as classes
use Rattle.ipx_router.specs.declared.port.Port.{Port}
use Rattle.ipx_router.specs.declared.reason.Reason.TheVariants.{Propagated}
use Rattle.ipx_router.specs.Classify.{class_of, class_on_network}
use Rattle.ipx_router.specs.Replying.{asks_all}
use Rattle.ipx_rate_limits.specs.declared.directed_broadcast.DirectedBroadcast.{DirectedBroadcast}
use Rattle.ipx_rate_limits.specs.declared.port_buckets.PortBuckets.{PortBuckets}
use Rattle.ipx_rate_limits.specs.declared.querier.Querier.{Querier}
use Rattle.ipx_rate_limits.specs.DirectedBroadcasts.{IsDirectedBroadcast, is_directed, is_for_many}
use Rattle.ipx_rate_limits.specs.PortBuckets.{has_groups}
use Rattle.ipx_rate_limits.specs.RateLimiter.{AsksForAll, AsksNarrowly, HearOutOfMemoryBelow, HearsNarrowWithToken, HearsRateLimited, HearsWithToken, IsGeneralQuery, IsNarrowQuery, PassesOn, RateLimiterView}
use Rattle.ipx_rate_limits.specs.QueryRate.{IsEachHearingLimited, IsEachQueryLimited, Reaches}

-- bytes are one packet, and a body is one message
abbrev OneIpx : Type 0
OneIpx = (p q : PacketView) (bytes s t : List ℕ) → IsIpx p bytes s → IsIpx q bytes t → (p ≡ q) × (s ≡ t)

abbrev OneRip : Type 0
OneRip = (m n : RipView) (bytes s t : List ℕ) → IsRip m bytes s → IsRip n bytes t → (m ≡ n) × (s ≡ t)

abbrev OneSap : Type 0
OneSap = (m n : SapView) (bytes s t : List ℕ) → IsSap m bytes s → IsSap n bytes t → (m ≡ n) × (s ≡ t)

not_both : (b : Bool) → b ≡ true → b ≡ false → ⊥
not_both b is not_so = let never : true ≡ false = sym is ∙ not_so in absurd (cc never)

same_asked : (a b : List RipEntry) → rip.Request a ≡ rip.Request b → asks_all a ≡ asks_all b
same_asked a b is = let same : a ≡ b = cc in ap asks_all same

-- what is directed goes on to another network
goes_on : (type20 local here : Bool) (control : PacketClass) → not type20 ≡ true → not local ≡ true → not here ≡ true
    → (if type20 then classes.Dropped Propagated else if local || here then control else classes.Forward) ≡ classes.Forward
goes_on true local here control a b c = absurd (cc a)
goes_on false true here control a b c = absurd (cc b)
goes_on false false true control a b c = absurd (cc c)
goes_on false false false control a b c = refl

directed_goes_on : (at : Port) (groups : Bool) (h : IpxHeader) → is_directed at groups h ≡ true → class_of at h ≡ classes.Forward
directed_goes_on at groups h is =
    let last = and_parts (not (h.kind == netbios_propagation_type) && nat_lt h.hops 15 && is_for_many groups h.to.node && not (h.to.network.0 == local_network)) (not (h.to.network.0 == at.network.0)) is in
    let third = and_parts (not (h.kind == netbios_propagation_type) && nat_lt h.hops 15 && is_for_many groups h.to.node) (not (h.to.network.0 == local_network)) last.0 in
    let second = and_parts (not (h.kind == netbios_propagation_type) && nat_lt h.hops 15) (is_for_many groups h.to.node) third.0 in
    let first = and_parts (not (h.kind == netbios_propagation_type)) (nat_lt h.hops 15) second.0 in
    goes_on (h.kind == netbios_propagation_type) (h.to.network.0 == local_network) (h.to.network.0 == at.network.0) (class_on_network at h) first.0 third.1 last.1

module _ (one_ipx : OneIpx) (one_rip : OneRip) (one_sap : OneSap) where
  -- no body asks for all and narrowly
  one_kind : (k : PacketClass) (body : List ℕ) → AsksForAll k body → AsksNarrowly k body → ⊥
  one_kind classes.Rip body a b =
      let same = same_asked a.0 b.0 (one_rip (rip.Request a.0) (rip.Request b.0) body a.1 b.1 a.2 b.2).0 in
      not_both (asks_all a.0) a.3 (same ∙ b.3)
  one_kind classes.Sap body a b =
      let same = (one_sap (sap.Query false a.0) (sap.Query true b.0) body a.1 b.1 a.2 b.2).0 in absurd (cc same)
  one_kind classes.Forward body a b = a
  one_kind (classes.Dropped reason) body a b = a

  module _ (ports : List Port) (limits : List PortBuckets) (port : ℕ) (bytes : List ℕ) where
    same_packet : (p q : PacketView) → BeginsWith bytes p → BeginsWith bytes q → p ≡ q
    same_packet p q a b = (one_ipx p q bytes a.0 b.0 a.1 b.1).0

    abbrev querier_of : PacketView → Querier
    querier_of p = record { port = port; node = p.header.from.node }

    one_querier : (v w : Querier) → IsGeneralQuery ports port bytes v → IsGeneralQuery ports port bytes w → v ≡ w
    one_querier v w q r = q.2.3 ∙ ap querier_of (same_packet q.2.0 r.2.0 q.2.1 r.2.1) ∙ sym r.2.3

    one_narrow : (v w : Querier) → IsNarrowQuery ports port bytes v → IsNarrowQuery ports port bytes w → v ≡ w
    one_narrow v w q r = q.2.3 ∙ ap querier_of (same_packet q.2.0 r.2.0 q.2.1 r.2.1) ∙ sym r.2.3

    -- what holds of a packet at its port
    moved : (P : Port → PacketView → Type 0) (a b : Port) (p q : PacketView) → Some a ≡ Some b → p ≡ q → P a p → P b q
    moved P a b p q same_port same h =
        subst (λ (x : PacketView). P b x) same (subst (λ (x : Port). P x p) (same_Some a b same_port) h)

    not_narrow : (v w : Querier) → IsGeneralQuery ports port bytes v → IsNarrowQuery ports port bytes w → ⊥
    not_narrow v w q r =
        let narrowly = moved (λ at p. AsksNarrowly (class_of at p.header) p.body) r.0 q.0 r.2.0 q.2.0 (sym r.1 ∙ q.1) (same_packet r.2.0 q.2.0 r.2.1 q.2.1) r.2.2 in
        one_kind (class_of q.0 q.2.0.header) q.2.0.body q.2.2 narrowly

    -- the packet of a directed broadcast is no control packet
    directed_class : (it : DirectedBroadcast) (at : Port) (p : PacketView) → IsDirectedBroadcast ports limits port bytes it → slice_get ports port ≡ Some at → BeginsWith bytes p → class_of at p.header ≡ classes.Forward
    directed_class it at p d there begins =
        moved (λ at p. class_of at p.header ≡ classes.Forward) d.0 at d.2.0 p (sym d.1 ∙ there) (same_packet d.2.0 p d.2.1 begins)
        (directed_goes_on d.0 (has_groups limits it.leaves_by) d.2.0.header d.2.2)

    not_directed : (w : Querier) (it : DirectedBroadcast) → IsGeneralQuery ports port bytes w → IsDirectedBroadcast ports limits port bytes it → ⊥
    not_directed w it q d = subst (λ (k : PacketClass). AsksForAll k q.2.0.body) (directed_class it q.0 q.2.0 d q.1 q.2.1) q.2.2

    not_directed_narrow : (w : Querier) (it : DirectedBroadcast) → IsNarrowQuery ports port bytes w → IsDirectedBroadcast ports limits port bytes it → ⊥
    not_directed_narrow w it q d = subst (λ (k : PacketClass). AsksNarrowly k q.2.0.body) (directed_class it q.0 q.2.0 d q.1 q.2.1) q.2.2

  module _ {C : Type 0} (hears : C → ℕ → List ℕ → ℕ → C → Type 0) (old new : RateLimiterView C) (port : ℕ) (bytes : List ℕ) (now : ℕ) where
    same_core : {n : RateLimiterView C} → new ≡ n → n.core ≡ old.core → new.core ≡ old.core
    same_core is same = ap (λ (v : RateLimiterView C). v.core) is ∙ same

    general : HearsRateLimited hears old port bytes now new → (who : Querier) → IsGeneralQuery old.ports port bytes who
        → HearsWithToken hears old port bytes now new who ⊎ (new.core ≡ old.core)
    general h who q =
        let limits = old.buckets.ports in
        elim h [
          | inl x ↦ elim x [
            | inl heard ↦ inl (subst (λ (w : Querier). HearsWithToken hears old port bytes now new w) (one_querier old.ports limits port bytes heard.0 who heard.1.0 q) heard.1)
            | inr dropped ↦ inr (same_core dropped.3 refl)
          ]
          | inr y ↦ elim y [
            | inl n ↦ elim n [
              | inl heard ↦ absurd (not_narrow old.ports limits port bytes who heard.0 q heard.1.0)
              | inr dropped ↦ inr (same_core dropped.3 refl)
            ]
            | inr z ↦ elim z [
              | inl d ↦ elim d [
                | inl heard ↦ absurd (not_directed old.ports limits port bytes who heard.0 q heard.1.0)
                | inr dropped ↦ inr (same_core dropped.3 refl)
              ]
              | inr below ↦ absurd (below.0 who q)
            ]
          ]
        ]

    narrow : HearsRateLimited hears old port bytes now new → (who : Querier) → IsNarrowQuery old.ports port bytes who
        → HearsNarrowWithToken hears old port bytes now new who ⊎ (new.core ≡ old.core)
    narrow h who q =
        let limits = old.buckets.ports in
        elim h [
          | inl x ↦ elim x [
            | inl heard ↦ absurd (not_narrow old.ports limits port bytes heard.0 who heard.1.0 q)
            | inr dropped ↦ inr (same_core dropped.3 refl)
          ]
          | inr y ↦ elim y [
            | inl n ↦ elim n [
              | inl heard ↦ inl (subst (λ (w : Querier). HearsNarrowWithToken hears old port bytes now new w) (one_narrow old.ports limits port bytes heard.0 who heard.1.0 q) heard.1)
              | inr dropped ↦ inr (same_core dropped.3 refl)
            ]
            | inr z ↦ elim z [
              | inl d ↦ elim d [
                | inl heard ↦ absurd (not_directed_narrow old.ports limits port bytes who heard.0 q heard.1.0)
                | inr dropped ↦ inr (same_core dropped.3 refl)
              ]
              | inr below ↦ absurd (below.1 who q)
            ]
          ]
        ]

  pub each_query : {C : Type 0} (hears : C → ℕ → List ℕ → ℕ → C → Type 0) → IsEachQueryLimited hears
  each_query hears old new port bytes now h = (general hears old new port bytes now h, narrow hears old new port bytes now h)

-- a core that is reached hears, or runs out of memory
module _ {C : Type 0} (hears hear_out_of_memory : C → ℕ → List ℕ → ℕ → C → Type 0) (old new : RateLimiterView C) (port : ℕ) (bytes : List ℕ) (now : ℕ) where
  heard_is : HearsRateLimited hears old port bytes now new → HearsRateLimited (Reaches hears hear_out_of_memory) old port bytes now new
  heard_is h = elim h [
    | inl x ↦ elim x [
      | inl heard ↦ inl (inl (heard.0, (heard.1.0, heard.1.1, inl heard.1.2, heard.1.3)))
      | inr dropped ↦ inl (inr dropped)
    ]
    | inr y ↦ elim y [
      | inl n ↦ elim n [
        | inl heard ↦ inr (inl (inl (heard.0, (heard.1.0, heard.1.1, inl heard.1.2, heard.1.3))))
        | inr dropped ↦ inr (inl (inr dropped))
      ]
      | inr z ↦ elim z [
        | inl d ↦ elim d [
          | inl heard ↦ inr (inr (inl (inl (heard.0, (heard.1.0, heard.1.1, inl heard.1.2, heard.1.3)))))
          | inr dropped ↦ inr (inr (inl (inr dropped)))
        ]
        | inr below ↦ inr (inr (inr (below.0, below.1, below.2, inl below.3, below.4)))
      ]
    ]
  ]

  lost_is : HearOutOfMemoryBelow hear_out_of_memory old port bytes now new → HearsRateLimited (Reaches hears hear_out_of_memory) old port bytes now new
  lost_is h = elim h [
    | inl lost ↦ inl (inl (lost.0, (lost.1.0, lost.1.1, inr lost.1.2, lost.1.3)))
    | inr y ↦ elim y [
      | inl lost ↦ inr (inl (inl (lost.0, (lost.1.0, lost.1.1, inr lost.1.2, lost.1.3))))
      | inr z ↦ elim z [
        | inl lost ↦ inr (inr (inl (inl (lost.0, (lost.1.0, lost.1.1, inr lost.1.2, lost.1.3)))))
        | inr below ↦ inr (inr (inr (below.0, below.1, below.2, inr below.3, below.4)))
      ]
    ]
  ]

pub each_hearing : {C : Type 0} (hears hear_out_of_memory : C → ℕ → List ℕ → ℕ → C → Type 0) → IsEachHearingLimited hears hear_out_of_memory
each_hearing hears hear_out_of_memory old new port bytes now h = elim h [
  | inl heard ↦ heard_is hears hear_out_of_memory old new port bytes now heard
  | inr lost ↦ lost_is hears hear_out_of_memory old new port bytes now lost
]
