-- From the entries that were learned to the body that was.
use Rattle.std.proofs.Common.{◌≡◌, ℕ, Bool, true, false, List, length, Option, Some, None, Result, Ok, Err, sym, subst}
use Rattle.std.specs.Prelude.{IfOk, IfErr, OnOk, OnErr, MatchOption, MatchResult, nat_lt}
use Rattle.ipx_wire.specs.declared.address.Address.{Address}
use Rattle.ipx_wire.specs.declared.address.Network.{Network}
use Rattle.ipx_wire.specs.declared.address.Node.{Node}
use Rattle.ipx_wire.specs.declared.memory.OutOfMemory.{OutOfMemory}
use Rattle.ipx_control.specs.declared.fault.ControlFault.{ControlFault}
use Rattle.ipx_control.specs.declared.rip.packet.RipEntry.{RipEntry}
use Rattle.ipx_control.specs.declared.sap.packet.ServiceEntry.{ServiceEntry}
use Rattle.ipx_control.specs.Rip.{RipView, IsRip, rip_fault}
use Rattle.ipx_control.specs.Rip as rip
use Rattle.ipx_control.specs.Sap.{SapView, IsSap, sap_fault}
use Rattle.ipx_control.specs.Sap as sap
use Rattle.ipx_tables.specs.declared.fault.TableFault.{TableFault}
use Rattle.ipx_tables.specs.declared.fault.TableFault.TheVariants.{Full, OutOfMemory as out_of_memory}
use Rattle.ipx_tables.specs.declared.route.RouteMetric.{RouteMetric}
use Rattle.ipx_tables.specs.declared.service.ServiceKey.{ServiceKey}
use Rattle.ipx_tables.specs.declared.service.ServiceMetric.{ServiceMetric}
use Rattle.ipx_tables.specs.declared.source.Source.{Source}
use Rattle.ipx_tables.specs.Content.{Table}
use Rattle.ipx_router.specs.Hearing.{AtEntry, GrowsByRoute, GrowsByService, HeardRoutes, HeardServices, IsFullForRoute, IsFullForService}
use Rattle.ipx_router.specs.Knowledge.{routes_in, services_in}
use Rattle.ipx_query.specs.declared.answer_heard.AnswerHeard.{AnswerHeard}
use Rattle.ipx_query.specs.QueryAnswers.{HearsRip, HearsRipMessage, HearsSap, HearsSapMessage, RipBodyOutOfMemory, SapBodyOutOfMemory, TakesRoutes, TakesServices, lone_port, source_at}

-- the answer of entries that were learned, by how many were
abbrev pub Outcome : Bool → Result (Unit {0}) TableFault → Option AnswerHeard → Type 0
Outcome ended heard a = MatchResult heard
    (λ x. a ≡ Some (record { ended = ended; cut = false }))
    (λ f. (f ≡ Full) × (a ≡ Some (record { ended = ended; cut = true })))

module _ (own : Address) (node : Node) (now : ℕ) (old : Table Network RouteMetric) (body tail : List ℕ) (entries : List RipEntry) (source : Source) (from : source ≡ source_at node) (ended : Bool) (is_ended : ended ≡ nat_lt (length entries) 50)
    (none : rip_fault body ≡ None) (is : IsRip (rip.Response entries) body tail) (new : Table Network RouteMetric) (most : new.capacity ≡ old.capacity) where
  rip_answer : (a : Option AnswerHeard) (cut : Bool) → a ≡ Some (record { ended = ended; cut = cut }) → TakesRoutes own node now entries old cut new → HearsRip own node now old body a new
  rip_answer a cut said takes =
      subst (λ (f : Option ControlFault). MatchOption f ((m : RipView) × (tail : List ℕ) × IsRip m body tail × HearsRipMessage own node now old m a new) (λ f. (a ≡ None) × (new ≡ old))) (sym none)
      (rip.Response entries, tail, is, (cut, subst (λ (b : Bool). a ≡ Some (record { ended = b; cut = cut })) is_ended said, takes))

  pub rip_heard : (heard : Result (Unit {0}) TableFault) (o : Result (Option AnswerHeard) OutOfMemory)
      → OnOk heard (HeardRoutes (lone_port own) source now entries (routes_in old) (length entries) new)
      → IfErr heard (λ f. (n : ℕ) × HeardRoutes (lone_port own) source now entries (routes_in old) n new × (f ≡ Full → AtEntry entries n (IsFullForRoute (lone_port own) source new)) × (f ≡ out_of_memory → AtEntry entries n (GrowsByRoute (lone_port own) source new)))
      → IfOk o (Outcome ended heard) → IfOk o (λ a. HearsRip own node now old body a new)
  rip_heard (Ok n) (Ok a) ok err says = rip_answer a false says (most, subst (λ (s : Source). HeardRoutes (lone_port own) s now entries (routes_in old) (length entries) new) from ok)
  rip_heard (Err f) (Ok a) ok err says =
      rip_answer a true says.1 (
        most,
        subst (λ (s : Source). (n : ℕ) × HeardRoutes (lone_port own) s now entries (routes_in old) n new × AtEntry entries n (IsFullForRoute (lone_port own) s new)) from (err.0, err.1, err.2 says.0),
      )
  rip_heard (Ok n) (Err e) ok err says = tt
  rip_heard (Err f) (Err e) ok err says = tt

  pub rip_needs : (heard : Result (Unit {0}) TableFault) (o : Result (Option AnswerHeard) OutOfMemory)
      → IfErr heard (λ f. (n : ℕ) × HeardRoutes (lone_port own) source now entries (routes_in old) n new × (f ≡ Full → AtEntry entries n (IsFullForRoute (lone_port own) source new)) × (f ≡ out_of_memory → AtEntry entries n (GrowsByRoute (lone_port own) source new)))
      → OnErr o (heard ≡ Err out_of_memory) → OnErr o (RipBodyOutOfMemory own node now old body new)
  rip_needs heard (Ok x) err says = tt
  rip_needs (Ok n) (Err e) err says = cc
  rip_needs (Err f) (Err e) err says =
      let wants : f ≡ out_of_memory = cc in
      (entries, tail, is, most, subst (λ (s : Source). (n : ℕ) × HeardRoutes (lone_port own) s now entries (routes_in old) n new × AtEntry entries n (GrowsByRoute (lone_port own) s new)) from (err.0, err.1, err.3 wants))

module _ (node : Node) (now : ℕ) (old : Table ServiceKey ServiceMetric) (body tail : List ℕ) (nearest : Bool) (entries : List ServiceEntry) (source : Source) (from : source ≡ source_at node) (ended : Bool) (is_ended : ended ≡ nat_lt (length entries) 7)
    (none : sap_fault body ≡ None) (is : IsSap (sap.Response nearest entries) body tail) (new : Table ServiceKey ServiceMetric) (most : new.capacity ≡ old.capacity) where
  sap_answer : (a : Option AnswerHeard) (cut : Bool) → a ≡ Some (record { ended = ended; cut = cut }) → TakesServices node now entries old cut new → HearsSap node now old body a new
  sap_answer a cut said takes =
      subst (λ (f : Option ControlFault). MatchOption f ((m : SapView) × (tail : List ℕ) × IsSap m body tail × HearsSapMessage node now old m a new) (λ f. (a ≡ None) × (new ≡ old))) (sym none)
      (sap.Response nearest entries, tail, is, (cut, subst (λ (b : Bool). a ≡ Some (record { ended = b; cut = cut })) is_ended said, takes))

  pub sap_heard : (heard : Result (Unit {0}) TableFault) (o : Result (Option AnswerHeard) OutOfMemory)
      → OnOk heard (HeardServices source now entries (services_in old) (length entries) new)
      → IfErr heard (λ f. (n : ℕ) × HeardServices source now entries (services_in old) n new × (f ≡ Full → AtEntry entries n (IsFullForService source new)) × (f ≡ out_of_memory → AtEntry entries n (GrowsByService source new)))
      → IfOk o (Outcome ended heard) → IfOk o (λ a. HearsSap node now old body a new)
  sap_heard (Ok n) (Ok a) ok err says = sap_answer a false says (most, subst (λ (s : Source). HeardServices s now entries (services_in old) (length entries) new) from ok)
  sap_heard (Err f) (Ok a) ok err says =
      sap_answer a true says.1 (
        most,
        subst (λ (s : Source). (n : ℕ) × HeardServices s now entries (services_in old) n new × AtEntry entries n (IsFullForService s new)) from (err.0, err.1, err.2 says.0),
      )
  sap_heard (Ok n) (Err e) ok err says = tt
  sap_heard (Err f) (Err e) ok err says = tt

  pub sap_needs : (heard : Result (Unit {0}) TableFault) (o : Result (Option AnswerHeard) OutOfMemory)
      → IfErr heard (λ f. (n : ℕ) × HeardServices source now entries (services_in old) n new × (f ≡ Full → AtEntry entries n (IsFullForService source new)) × (f ≡ out_of_memory → AtEntry entries n (GrowsByService source new)))
      → OnErr o (heard ≡ Err out_of_memory) → OnErr o (SapBodyOutOfMemory node now old body new)
  sap_needs heard (Ok x) err says = tt
  sap_needs (Ok n) (Err e) err says = cc
  sap_needs (Err f) (Err e) err says =
      let wants : f ≡ out_of_memory = cc in
      (nearest, entries, tail, is, most, subst (λ (s : Source). (n : ℕ) × HeardServices s now entries (services_in old) n new × AtEntry entries n (GrowsByService s new)) from (err.0, err.1, err.3 wants))
