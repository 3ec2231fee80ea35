use Rattle.std.proofs.Common.{◌≡◌, ◌∙◌, ℕ, List, Option, None, Some, refl, sym, ap, subst}
use Rattle.std.specs.Prelude.{All, IfSome, flat_map, slice_get}
use Rattle.std.specs.Io.KnownBytes.{Appends}
use Rattle.spx_messages.specs.Message.{MessageView}
use Rattle.ipx_host.specs.Passing.{Take, bodies_of}
use Rattle.theory_processes.specs.Course.{Call, Course}
use Rattle.theory_processes.specs.Loops.{host_calls, marked}
use Rattle.theory_processes.specs.Senders.{IsSender, messages_in}
use Rattle.theory_processes.specs.Shows.{AllAreConnections}
use Rattle.theory_processes.specs.Site.{Connection, Site}
use Rattle.theory_processes.specs.ListeningCalls.{take_in}
use Rattle.theory_processes.proofs.Marks.{first_dials, keeps_marked, messages_marked, takes_marked}
use Rattle.theory_processes.proofs.Reader.{bodies_are, reads_out}
use Rattle.theory_processes.proofs.hosts.listened_output_is_input.Goals as goal

-- the bodies of messages, one after another
abbrev bodies : List MessageView → List ℕ
bodies ms = flat_map (λ (m : MessageView). m.body) ms

pub returns-clause-output : goal.returns-clause-output
returns-clause-output c = λ file written writes run start site calls host new course differ outside at s reached shows fresh.
    let shown : (mid : Site) (done : List Call) → Course done start mid → AllAreConnections mid =
    λ mid done came. (c.courses_are_scenes.ensures start mid done new came).2.all in
    let took : flat_map take_in (host_calls host calls) ≡ run.takes = ap (flat_map take_in) at.are ∙ takes_marked at.sources run.calls.calls ∙ run.calls.took in
    let out = reads_out host run.id start site run.last differ at.ends shown calls course new.connections run.earlier (took ∙ run.ends) in
    let all : All (λ (t : Take). t.id ≡ run.id) (flat_map take_in (host_calls host calls)) =
    subst (λ (ts : List Take). All (λ (t : Take). t.id ≡ run.id) ts) (sym took) run.of_it in
    let wrote : bodies_of run.takes ≡ bodies out.last.connection.taken =
    ap bodies_of (sym took) ∙ bodies_are run.id (host_calls host calls) all ∙ ap bodies (sym out.taken) in
    let e = (c.processes_hand_on.ensures s site reached shows differ outside fresh).ended out.last.place out.last.connection out.last.at out.last.ended in
    record {
      one = e.0;
      two = out.last.place;
      sender = e.1;
      reader = out.last.connection;
      peers = e.2;
      there = e.3;
      there_too = out.last.at;
      host_is = out.last.host;
      id_is = out.last.id_is;
      wrote = subst (λ (bs : List ℕ). Appends written writes bs) (wrote ∙ ap bodies e.4) run.took;
    }

-- what was handed in is the input, if it is known
known : (input written writes : Option (List ℕ)) (given more : List ℕ) → given ≡ more → IfSome input (λ bytes. more ≡ bytes) → Appends written writes given
    → IfSome input (λ bytes. Appends written writes bytes)
known None written writes given more same is took = tt
known (Some bytes) written writes given more same is took = subst (λ (bs : List ℕ). Appends written writes bs) (same ∙ is) took

pub returns-clause-both_end_well : goal.returns-clause-both_end_well
returns-clause-both_end_well c = λ file to input run start site calls host course differ at s reader id written writes o host-is id-is.
    let messages = messages_in run.id run.more in
    let sender : IsSender host run.id messages calls = record {
      socket = file.socket;
      to = to;
      buffers = file.buffers;
      now = 0;
      more = marked at.sources run.more;
      are = at.are ∙ first_dials at.sources file.socket to file.buffers 0 run.id run.more;
      keeps = keeps_marked at.sources run.more run.id run.keeps;
      hands = messages_marked at.sources run.more run.id;
    } in
    let x = c.senders_hand_in.ensures start site calls host run.id messages course sender in
    let same : x.place ≡ o.one =
    differ x.place o.one x.sender o.sender run.last run.last x.there o.there (ap (slice_get site.hosts) x.host ∙ at.ends) (ap (slice_get site.hosts) host-is ∙ at.ends) refl (x.id_is ∙ sym id-is) in
    let one : Some x.sender ≡ Some o.sender = sym x.there ∙ ap (slice_get site.connections) same ∙ o.there in
    let is : x.sender ≡ o.sender = cc one in
    known input written writes (bodies o.sender.given) (bodies messages) (ap bodies (ap (λ (k : Connection). k.given) (sym is) ∙ x.given)) run.handed o.wrote
