-- Options before or after the word of a file.
use Rattle.std.proofs.Common.{◌≡◌, ℕ, true, false, inl, inr, List, [], ◌∷◌, get_or, Option, Some, None, codes, ap, sym, subst}
use Rattle.ipx_tool.specs.declared.words.Task.{Task}
use Rattle.ipx_tool.specs.declared.words.Task.TheVariants.{ShowFrames, Udp, Ipxnet, CheckSite, Listen, CheckHost, Networks, Services, ServicesOf}
use Rattle.ipx_tool.specs.Words.{AsksFor, Finds, WritesNumber}
use Rattle.ipx_tool.proofs.WordsSeparate.{check_or_frame, check_or_json, frame_or_json, not_check, not_check_node, not_json, not_json_node, not_once, not_once_node, not_plain, once_or_check, once_or_frame, once_or_json, port_or_check, port_or_json, port_or_once, second, third}

-- before or after the word `--once` asks for the same
pub behind : (command file : List ℕ) (task : Task) → AsksFor (command ∷ codes "--once" ∷ file ∷ []) task
    → AsksFor (command ∷ file ∷ codes "--once" ∷ []) task
behind command file (Udp port) (inl asks) = absurd (cc)
behind command file (Udp port) (inr (text, is, inl e)) = absurd (port_or_once (sym (ap (λ (ws : List (List ℕ)). get_or ws 1 []) e)))
behind command file (Udp port) (inr (text, is, inr e)) = absurd (cc)
behind command file (Ipxnet port) (inl asks) = absurd (cc)
behind command file (Ipxnet port) (inr (text, is, inl e)) = absurd (port_or_once (sym (ap (λ (ws : List (List ℕ)). get_or ws 1 []) e)))
behind command file (Ipxnet port) (inr (text, is, inr e)) = absurd (cc)
behind command file (Listen other true) (inl e, plain) = (inr (cc), plain)
behind command file (Listen other true) (inr e, plain) =
    let option : other.now ≡ codes "--once" = cc in absurd (not_plain other.now _ option plain)
behind command file (CheckSite other) (inl e, plain) = absurd (once_or_check (second e))
behind command file (CheckSite other) (inr e, plain) =
    let option : other.now ≡ codes "--once" = cc in absurd (not_plain other.now _ option plain)
behind command file (CheckHost other) (inl e, plain) = absurd (once_or_check (second e))
behind command file (CheckHost other) (inr e, plain) =
    let option : other.now ≡ codes "--once" = cc in absurd (not_plain other.now _ option plain)
behind command file (ShowFrames node) (text, is, inl e) = absurd (once_or_frame (second e))
behind command file (ShowFrames node) (text, is, inr e) = absurd (cc)
behind command file (Networks other true) (inl e, plain) = absurd (once_or_json (second e))
behind command file (Networks other true) (inr e, plain) =
    let option : other.now ≡ codes "--once" = cc in absurd (not_plain other.now _ option plain)
behind command file (Services other true) (inl e, plain) = absurd (once_or_json (second e))
behind command file (Services other true) (inr e, plain) =
    let option : other.now ≡ codes "--once" = cc in absurd (not_plain other.now _ option plain)
behind command file (ServicesOf other kind false) (e, plain, also) =
    let option : other.now ≡ codes "--once" = cc in absurd (not_plain other.now _ option plain)
behind command file (ServicesOf other kind true) (inl e, plain, also) = absurd (cc)
behind command file (ServicesOf other kind true) (inr (inl e), plain, also) = absurd (cc)
behind command file (ServicesOf other kind true) (inr (inr e), plain, also) = absurd (cc)
behind command file _ asks = absurd (cc)

pub before : (command file : List ℕ) (task : Task) → AsksFor (command ∷ file ∷ codes "--once" ∷ []) task
    → AsksFor (command ∷ codes "--once" ∷ file ∷ []) task
before command file (Udp port) (inl asks) = absurd (cc)
before command file (Udp port) (inr (text, is, inl e)) =
    let once : text ≡ codes "--once" = cc in absurd (not_once port (subst (λ t. WritesNumber t port) once is))
before command file (Udp port) (inr (text, is, inr e)) = absurd (cc)
before command file (Ipxnet port) (inl asks) = absurd (cc)
before command file (Ipxnet port) (inr (text, is, inl e)) =
    let once : text ≡ codes "--once" = cc in absurd (not_once port (subst (λ t. WritesNumber t port) once is))
before command file (Ipxnet port) (inr (text, is, inr e)) = absurd (cc)
before command file (Listen other true) (inl e, plain) =
    let option : other.now ≡ codes "--once" = cc in absurd (not_plain other.now _ option plain)
before command file (Listen other true) (inr e, plain) = (inl (cc), plain)
before command file (CheckSite other) (inl e, plain) =
    let option : other.now ≡ codes "--once" = cc in absurd (not_plain other.now _ option plain)
before command file (CheckSite other) (inr e, plain) = absurd (once_or_check (third e))
before command file (CheckHost other) (inl e, plain) =
    let option : other.now ≡ codes "--once" = cc in absurd (not_plain other.now _ option plain)
before command file (CheckHost other) (inr e, plain) = absurd (once_or_check (third e))
before command file (ShowFrames node) (text, is, inl e) = absurd (not_once_node text node (third e) is)
before command file (ShowFrames node) (text, is, inr e) = absurd (cc)
before command file (Networks other true) (inl e, plain) =
    let option : other.now ≡ codes "--once" = cc in absurd (not_plain other.now _ option plain)
before command file (Networks other true) (inr e, plain) = absurd (once_or_json (third e))
before command file (Services other true) (inl e, plain) =
    let option : other.now ≡ codes "--once" = cc in absurd (not_plain other.now _ option plain)
before command file (Services other true) (inr e, plain) = absurd (once_or_json (third e))
before command file (ServicesOf other kind false) (e, plain, also) =
    let option : kind.now ≡ codes "--once" = cc in absurd (not_plain kind.now _ option also)
before command file (ServicesOf other kind true) (inl e, plain, also) = absurd (cc)
before command file (ServicesOf other kind true) (inr (inl e), plain, also) = absurd (cc)
before command file (ServicesOf other kind true) (inr (inr e), plain, also) = absurd (cc)
before command file _ asks = absurd (cc)

pub found_after : (command file : List ℕ) (found : Option Task) → Finds (AsksFor (command ∷ codes "--once" ∷ file ∷ [])) found
    → Finds (AsksFor (command ∷ file ∷ codes "--once" ∷ [])) found
found_after command file None none = λ task asks. none task (before command file task asks)
found_after command file (Some task) asks = behind command file task asks

-- likewise `--check`
check_after : (command file : List ℕ) (task : Task) → AsksFor (command ∷ codes "--check" ∷ file ∷ []) task
    → AsksFor (command ∷ file ∷ codes "--check" ∷ []) task
check_after command file (Udp port) (inl asks) = absurd (cc)
check_after command file (Udp port) (inr (text, is, inl e)) = absurd (port_or_check (sym (second e)))
check_after command file (Udp port) (inr (text, is, inr e)) = absurd (cc)
check_after command file (Ipxnet port) (inl asks) = absurd (cc)
check_after command file (Ipxnet port) (inr (text, is, inl e)) = absurd (port_or_check (sym (second e)))
check_after command file (Ipxnet port) (inr (text, is, inr e)) = absurd (cc)
check_after command file (Listen other true) (inl e, plain) = absurd (once_or_check (sym (second e)))
check_after command file (Listen other true) (inr e, plain) =
    let option : other.now ≡ codes "--check" = cc in absurd (not_plain other.now _ option plain)
check_after command file (CheckSite other) (inl e, plain) = (inr (cc), plain)
check_after command file (CheckSite other) (inr e, plain) =
    let option : other.now ≡ codes "--check" = cc in absurd (not_plain other.now _ option plain)
check_after command file (CheckHost other) (inl e, plain) = (inr (cc), plain)
check_after command file (CheckHost other) (inr e, plain) =
    let option : other.now ≡ codes "--check" = cc in absurd (not_plain other.now _ option plain)
check_after command file (ShowFrames node) (text, is, inl e) = absurd (check_or_frame (second e))
check_after command file (ShowFrames node) (text, is, inr e) = absurd (cc)
check_after command file (Networks other true) (inl e, plain) = absurd (check_or_json (second e))
check_after command file (Networks other true) (inr e, plain) =
    let option : other.now ≡ codes "--check" = cc in absurd (not_plain other.now _ option plain)
check_after command file (Services other true) (inl e, plain) = absurd (check_or_json (second e))
check_after command file (Services other true) (inr e, plain) =
    let option : other.now ≡ codes "--check" = cc in absurd (not_plain other.now _ option plain)
check_after command file (ServicesOf other kind false) (e, plain, also) =
    let option : other.now ≡ codes "--check" = cc in absurd (not_plain other.now _ option plain)
check_after command file (ServicesOf other kind true) (inl e, plain, also) = absurd (cc)
check_after command file (ServicesOf other kind true) (inr (inl e), plain, also) = absurd (cc)
check_after command file (ServicesOf other kind true) (inr (inr e), plain, also) = absurd (cc)
check_after command file _ asks = absurd (cc)

check_before : (command file : List ℕ) (task : Task) → AsksFor (command ∷ file ∷ codes "--check" ∷ []) task
    → AsksFor (command ∷ codes "--check" ∷ file ∷ []) task
check_before command file (Udp port) (inl asks) = absurd (cc)
check_before command file (Udp port) (inr (text, is, inl e)) =
    let check : text ≡ codes "--check" = cc in absurd (not_check port (subst (λ t. WritesNumber t port) check is))
check_before command file (Udp port) (inr (text, is, inr e)) = absurd (cc)
check_before command file (Ipxnet port) (inl asks) = absurd (cc)
check_before command file (Ipxnet port) (inr (text, is, inl e)) =
    let check : text ≡ codes "--check" = cc in absurd (not_check port (subst (λ t. WritesNumber t port) check is))
check_before command file (Ipxnet port) (inr (text, is, inr e)) = absurd (cc)
check_before command file (Listen other true) (inl e, plain) =
    let option : other.now ≡ codes "--check" = cc in absurd (not_plain other.now _ option plain)
check_before command file (Listen other true) (inr e, plain) = absurd (once_or_check (sym (third e)))
check_before command file (CheckSite other) (inl e, plain) =
    let option : other.now ≡ codes "--check" = cc in absurd (not_plain other.now _ option plain)
check_before command file (CheckSite other) (inr e, plain) = (inl (cc), plain)
check_before command file (CheckHost other) (inl e, plain) =
    let option : other.now ≡ codes "--check" = cc in absurd (not_plain other.now _ option plain)
check_before command file (CheckHost other) (inr e, plain) = (inl (cc), plain)
check_before command file (ShowFrames node) (text, is, inl e) = absurd (not_check_node text node (third e) is)
check_before command file (ShowFrames node) (text, is, inr e) = absurd (cc)
check_before command file (Networks other true) (inl e, plain) =
    let option : other.now ≡ codes "--check" = cc in absurd (not_plain other.now _ option plain)
check_before command file (Networks other true) (inr e, plain) = absurd (check_or_json (third e))
check_before command file (Services other true) (inl e, plain) =
    let option : other.now ≡ codes "--check" = cc in absurd (not_plain other.now _ option plain)
check_before command file (Services other true) (inr e, plain) = absurd (check_or_json (third e))
check_before command file (ServicesOf other kind false) (e, plain, also) =
    let option : kind.now ≡ codes "--check" = cc in absurd (not_plain kind.now _ option also)
check_before command file (ServicesOf other kind true) (inl e, plain, also) = absurd (cc)
check_before command file (ServicesOf other kind true) (inr (inl e), plain, also) = absurd (cc)
check_before command file (ServicesOf other kind true) (inr (inr e), plain, also) = absurd (cc)
check_before command file _ asks = absurd (cc)

pub found_check : (command file : List ℕ) (found : Option Task) → Finds (AsksFor (command ∷ codes "--check" ∷ file ∷ [])) found
    → Finds (AsksFor (command ∷ file ∷ codes "--check" ∷ [])) found
found_check command file None none = λ task asks. none task (check_before command file task asks)
found_check command file (Some task) asks = check_after command file task asks

-- likewise `--json`
json_after : (command file : List ℕ) (task : Task) → AsksFor (command ∷ codes "--json" ∷ file ∷ []) task
    → AsksFor (command ∷ file ∷ codes "--json" ∷ []) task
json_after command file (Udp port) (inl asks) = absurd (cc)
json_after command file (Udp port) (inr (text, is, inl e)) = absurd (port_or_json (sym (second e)))
json_after command file (Udp port) (inr (text, is, inr e)) = absurd (cc)
json_after command file (Ipxnet port) (inl asks) = absurd (cc)
json_after command file (Ipxnet port) (inr (text, is, inl e)) = absurd (port_or_json (sym (second e)))
json_after command file (Ipxnet port) (inr (text, is, inr e)) = absurd (cc)
json_after command file (Listen other true) (inl e, plain) = absurd (once_or_json (sym (second e)))
json_after command file (Listen other true) (inr e, plain) =
    let option : other.now ≡ codes "--json" = cc in absurd (not_plain other.now _ option plain)
json_after command file (CheckSite other) (inl e, plain) = absurd (check_or_json (sym (second e)))
json_after command file (CheckSite other) (inr e, plain) =
    let option : other.now ≡ codes "--json" = cc in absurd (not_plain other.now _ option plain)
json_after command file (CheckHost other) (inl e, plain) = absurd (check_or_json (sym (second e)))
json_after command file (CheckHost other) (inr e, plain) =
    let option : other.now ≡ codes "--json" = cc in absurd (not_plain other.now _ option plain)
json_after command file (ShowFrames node) (text, is, inl e) = absurd (frame_or_json (sym (second e)))
json_after command file (ShowFrames node) (text, is, inr e) = absurd (cc)
json_after command file (Networks other true) (inl e, plain) = (inr (cc), plain)
json_after command file (Networks other true) (inr e, plain) =
    let option : other.now ≡ codes "--json" = cc in absurd (not_plain other.now _ option plain)
json_after command file (Services other true) (inl e, plain) = (inr (cc), plain)
json_after command file (Services other true) (inr e, plain) =
    let option : other.now ≡ codes "--json" = cc in absurd (not_plain other.now _ option plain)
json_after command file (ServicesOf other kind false) (e, plain, also) =
    let option : other.now ≡ codes "--json" = cc in absurd (not_plain other.now _ option plain)
json_after command file (ServicesOf other kind true) (inl e, plain, also) = absurd (cc)
json_after command file (ServicesOf other kind true) (inr (inl e), plain, also) = absurd (cc)
json_after command file (ServicesOf other kind true) (inr (inr e), plain, also) = absurd (cc)
json_after command file _ asks = absurd (cc)

json_before : (command file : List ℕ) (task : Task) → AsksFor (command ∷ file ∷ codes "--json" ∷ []) task
    → AsksFor (command ∷ codes "--json" ∷ file ∷ []) task
json_before command file (Udp port) (inl asks) = absurd (cc)
json_before command file (Udp port) (inr (text, is, inl e)) =
    let json : text ≡ codes "--json" = cc in absurd (not_json port (subst (λ t. WritesNumber t port) json is))
json_before command file (Udp port) (inr (text, is, inr e)) = absurd (cc)
json_before command file (Ipxnet port) (inl asks) = absurd (cc)
json_before command file (Ipxnet port) (inr (text, is, inl e)) =
    let json : text ≡ codes "--json" = cc in absurd (not_json port (subst (λ t. WritesNumber t port) json is))
json_before command file (Ipxnet port) (inr (text, is, inr e)) = absurd (cc)
json_before command file (Listen other true) (inl e, plain) =
    let option : other.now ≡ codes "--json" = cc in absurd (not_plain other.now _ option plain)
json_before command file (Listen other true) (inr e, plain) = absurd (once_or_json (sym (third e)))
json_before command file (CheckSite other) (inl e, plain) =
    let option : other.now ≡ codes "--json" = cc in absurd (not_plain other.now _ option plain)
json_before command file (CheckSite other) (inr e, plain) = absurd (check_or_json (sym (third e)))
json_before command file (CheckHost other) (inl e, plain) =
    let option : other.now ≡ codes "--json" = cc in absurd (not_plain other.now _ option plain)
json_before command file (CheckHost other) (inr e, plain) = absurd (check_or_json (sym (third e)))
json_before command file (ShowFrames node) (text, is, inl e) = absurd (not_json_node text node (third e) is)
json_before command file (ShowFrames node) (text, is, inr e) = absurd (cc)
json_before command file (Networks other true) (inl e, plain) =
    let option : other.now ≡ codes "--json" = cc in absurd (not_plain other.now _ option plain)
json_before command file (Networks other true) (inr e, plain) = (inl (cc), plain)
json_before command file (Services other true) (inl e, plain) =
    let option : other.now ≡ codes "--json" = cc in absurd (not_plain other.now _ option plain)
json_before command file (Services other true) (inr e, plain) = (inl (cc), plain)
json_before command file (ServicesOf other kind false) (e, plain, also) =
    let option : kind.now ≡ codes "--json" = cc in absurd (not_plain kind.now _ option also)
json_before command file (ServicesOf other kind true) (inl e, plain, also) = absurd (cc)
json_before command file (ServicesOf other kind true) (inr (inl e), plain, also) = absurd (cc)
json_before command file (ServicesOf other kind true) (inr (inr e), plain, also) = absurd (cc)
json_before command file _ asks = absurd (cc)

pub found_json : (command file : List ℕ) (found : Option Task) → Finds (AsksFor (command ∷ codes "--json" ∷ file ∷ [])) found
    → Finds (AsksFor (command ∷ file ∷ codes "--json" ∷ [])) found
found_json command file None none = λ task asks. none task (json_before command file task asks)
found_json command file (Some task) asks = json_after command file task asks
