-- `--port` with a number, and `--frame` with a node, in one word and in two.
use Rattle.std.proofs.Common.{◌≡◌, ℕ, true, false, inl, inr, List, [], ◌∷◌, ◌++◌, get_or, Option, Some, None, codes, arith, ap, sym, subst}
use Rattle.ipx_tool.specs.declared.words.Task.{Task}
use Rattle.ipx_tool.specs.declared.words.Task.TheVariants.{Show, ShowFrames, Udp, Ipxnet, Route, Farewell, CheckSite, Listen, CheckHost, Networks, Services, ServicesOf}
use Rattle.ipx_tool.specs.Words.{AsksFor, Finds}
use Rattle.ipx_tool.proofs.WordsSeparate.{check_or_frame, frame_or_json, not_plain, once_or_frame, port_or_check, port_or_frame, port_or_json, port_or_once, second}

-- `--port` and a text ask for the same in one word and in two
pub joined : (command text : List ℕ) (task : Task) → AsksFor (command ∷ codes "--port" ∷ text ∷ []) task
    → AsksFor (command ∷ (codes "--port=" ++ text) ∷ []) task
joined command text (Udp port) (inl asks) = absurd (cc)
joined command text (Udp port) (inr (other, is, inl e)) = inr (other, is, inr (cc))
joined command text (Udp port) (inr (other, is, inr e)) = absurd (cc)
joined command text (Ipxnet port) (inl asks) = absurd (cc)
joined command text (Ipxnet port) (inr (other, is, inl e)) = inr (other, is, inr (cc))
joined command text (Ipxnet port) (inr (other, is, inr e)) = absurd (cc)
joined command text (Listen file true) (inl e, plain) = absurd (port_or_once (ap (λ (ws : List (List ℕ)). get_or ws 1 []) e))
joined command text (Listen file true) (inr e, plain) =
    let option : file.now ≡ codes "--port" = cc in absurd (not_plain file.now _ option plain)
joined command text (CheckSite file) (inl e, plain) = absurd (port_or_check (second e))
joined command text (CheckSite file) (inr e, plain) =
    let option : file.now ≡ codes "--port" = cc in absurd (not_plain file.now _ option plain)
joined command text (CheckHost file) (inl e, plain) = absurd (port_or_check (second e))
joined command text (CheckHost file) (inr e, plain) =
    let option : file.now ≡ codes "--port" = cc in absurd (not_plain file.now _ option plain)
joined command text (ShowFrames node) (other, is, inl e) = absurd (port_or_frame (second e))
joined command text (ShowFrames node) (other, is, inr e) = absurd (cc)
joined command text (Networks file true) (inl e, plain) = absurd (port_or_json (second e))
joined command text (Networks file true) (inr e, plain) =
    let option : file.now ≡ codes "--port" = cc in absurd (not_plain file.now _ option plain)
joined command text (Services file true) (inl e, plain) = absurd (port_or_json (second e))
joined command text (Services file true) (inr e, plain) =
    let option : file.now ≡ codes "--port" = cc in absurd (not_plain file.now _ option plain)
joined command text (ServicesOf file kind false) (e, plain, also) =
    let option : file.now ≡ codes "--port" = cc in absurd (not_plain file.now _ option plain)
joined command text (ServicesOf file kind true) (inl e, plain, also) = absurd (cc)
joined command text (ServicesOf file kind true) (inr (inl e), plain, also) = absurd (cc)
joined command text (ServicesOf file kind true) (inr (inr e), plain, also) = absurd (cc)
joined command text _ asks = absurd (cc)

pub parted : (command text : List ℕ) (task : Task) → AsksFor (command ∷ (codes "--port=" ++ text) ∷ []) task
    → AsksFor (command ∷ codes "--port" ∷ text ∷ []) task
parted command text (Show packet) (e, plain) =
    let option : packet.now ≡ codes "--port=" ++ text = cc in absurd (not_plain packet.now _ option plain)
parted command text (ShowFrames node) (other, is, inl e) = absurd (cc)
parted command text (ShowFrames node) (other, is, inr e) =
    let words : codes "--port=" ++ text ≡ codes "--frame=" ++ other = second e in
    absurd (omega (arith, ap (λ (word : List ℕ). get_or word 2 0) words))
parted command text (Udp port) (inl asks) = absurd (cc)
parted command text (Udp port) (inr (other, is, inl e)) = absurd (cc)
parted command text (Udp port) (inr (other, is, inr e)) = inr (other, is, inl (cc))
parted command text (Ipxnet port) (inl asks) = absurd (cc)
parted command text (Ipxnet port) (inr (other, is, inl e)) = absurd (cc)
parted command text (Ipxnet port) (inr (other, is, inr e)) = inr (other, is, inl (cc))
parted command text (Route file) (e, plain) =
    let option : file.now ≡ codes "--port=" ++ text = cc in absurd (not_plain file.now _ option plain)
parted command text (Farewell file) (e, plain) =
    let option : file.now ≡ codes "--port=" ++ text = cc in absurd (not_plain file.now _ option plain)
parted command text (Listen file false) (e, plain) =
    let option : file.now ≡ codes "--port=" ++ text = cc in absurd (not_plain file.now _ option plain)
parted command text (Listen file true) (inl e, plain) = absurd (cc)
parted command text (Listen file true) (inr e, plain) = absurd (cc)
parted command text (CheckSite file) (inl e, plain) = absurd (cc)
parted command text (CheckSite file) (inr e, plain) = absurd (cc)
parted command text (CheckHost file) (inl e, plain) = absurd (cc)
parted command text (CheckHost file) (inr e, plain) = absurd (cc)
parted command text (Networks file false) (e, plain) =
    let option : file.now ≡ codes "--port=" ++ text = cc in absurd (not_plain file.now _ option plain)
parted command text (Networks file true) (inl e, plain) = absurd (cc)
parted command text (Networks file true) (inr e, plain) = absurd (cc)
parted command text (Services file false) (e, plain) =
    let option : file.now ≡ codes "--port=" ++ text = cc in absurd (not_plain file.now _ option plain)
parted command text (Services file true) (inl e, plain) = absurd (cc)
parted command text (Services file true) (inr e, plain) = absurd (cc)
parted command text (ServicesOf file kind false) (e, plain, also) = absurd (cc)
parted command text (ServicesOf file kind true) (inl e, plain, also) = absurd (cc)
parted command text (ServicesOf file kind true) (inr (inl e), plain, also) = absurd (cc)
parted command text (ServicesOf file kind true) (inr (inr e), plain, also) = absurd (cc)
parted command text _ asks = absurd (cc)

-- what is found for a port and its text is found for the word that joins them
pub found_joined : (command text word : List ℕ) (found : Option Task) → word ≡ codes "--port=" ++ text
    → Finds (AsksFor (command ∷ codes "--port" ∷ text ∷ [])) found → Finds (AsksFor (command ∷ word ∷ [])) found
found_joined command text word None is none =
    λ task asks. none task (parted command text task (subst (λ w. AsksFor (command ∷ w ∷ []) task) is asks))
found_joined command text word (Some task) is asks =
    subst (λ w. AsksFor (command ∷ w ∷ []) task) (sym is) (joined command text task asks)

-- likewise `--frame`
frame_joined : (command text : List ℕ) (task : Task) → AsksFor (command ∷ codes "--frame" ∷ text ∷ []) task
    → AsksFor (command ∷ (codes "--frame=" ++ text) ∷ []) task
frame_joined command text (ShowFrames node) (other, is, inl e) = (other, is, inr (cc))
frame_joined command text (ShowFrames node) (other, is, inr e) = absurd (cc)
frame_joined command text (Udp port) (inl asks) = absurd (cc)
frame_joined command text (Udp port) (inr (other, is, inl e)) = absurd (port_or_frame (sym (second e)))
frame_joined command text (Udp port) (inr (other, is, inr e)) = absurd (cc)
frame_joined command text (Ipxnet port) (inl asks) = absurd (cc)
frame_joined command text (Ipxnet port) (inr (other, is, inl e)) = absurd (port_or_frame (sym (second e)))
frame_joined command text (Ipxnet port) (inr (other, is, inr e)) = absurd (cc)
frame_joined command text (Listen file true) (inl e, plain) = absurd (once_or_frame (sym (second e)))
frame_joined command text (Listen file true) (inr e, plain) =
    let option : file.now ≡ codes "--frame" = cc in absurd (not_plain file.now _ option plain)
frame_joined command text (CheckSite file) (inl e, plain) = absurd (check_or_frame (sym (second e)))
frame_joined command text (CheckSite file) (inr e, plain) =
    let option : file.now ≡ codes "--frame" = cc in absurd (not_plain file.now _ option plain)
frame_joined command text (CheckHost file) (inl e, plain) = absurd (check_or_frame (sym (second e)))
frame_joined command text (CheckHost file) (inr e, plain) =
    let option : file.now ≡ codes "--frame" = cc in absurd (not_plain file.now _ option plain)
frame_joined command text (Networks file true) (inl e, plain) = absurd (frame_or_json (second e))
frame_joined command text (Networks file true) (inr e, plain) =
    let option : file.now ≡ codes "--frame" = cc in absurd (not_plain file.now _ option plain)
frame_joined command text (Services file true) (inl e, plain) = absurd (frame_or_json (second e))
frame_joined command text (Services file true) (inr e, plain) =
    let option : file.now ≡ codes "--frame" = cc in absurd (not_plain file.now _ option plain)
frame_joined command text (ServicesOf file kind false) (e, plain, also) =
    let option : file.now ≡ codes "--frame" = cc in absurd (not_plain file.now _ option plain)
frame_joined command text (ServicesOf file kind true) (inl e, plain, also) = absurd (cc)
frame_joined command text (ServicesOf file kind true) (inr (inl e), plain, also) = absurd (cc)
frame_joined command text (ServicesOf file kind true) (inr (inr e), plain, also) = absurd (cc)
frame_joined command text _ asks = absurd (cc)

frame_parted : (command text : List ℕ) (task : Task) → AsksFor (command ∷ (codes "--frame=" ++ text) ∷ []) task
    → AsksFor (command ∷ codes "--frame" ∷ text ∷ []) task
frame_parted command text (Show packet) (e, plain) =
    let option : packet.now ≡ codes "--frame=" ++ text = cc in absurd (not_plain packet.now _ option plain)
frame_parted command text (ShowFrames node) (other, is, inl e) = absurd (cc)
frame_parted command text (ShowFrames node) (other, is, inr e) = (other, is, inl (cc))
frame_parted command text (Udp port) (inl asks) = absurd (cc)
frame_parted command text (Udp port) (inr (other, is, inl e)) = absurd (cc)
frame_parted command text (Udp port) (inr (other, is, inr e)) =
    let words : codes "--frame=" ++ text ≡ codes "--port=" ++ other = second e in
    absurd (omega (arith, ap (λ (word : List ℕ). get_or word 2 0) words))
frame_parted command text (Ipxnet port) (inl asks) = absurd (cc)
frame_parted command text (Ipxnet port) (inr (other, is, inl e)) = absurd (cc)
frame_parted command text (Ipxnet port) (inr (other, is, inr e)) =
    let words : codes "--frame=" ++ text ≡ codes "--port=" ++ other = second e in
    absurd (omega (arith, ap (λ (word : List ℕ). get_or word 2 0) words))
frame_parted command text (Route file) (e, plain) =
    let option : file.now ≡ codes "--frame=" ++ text = cc in absurd (not_plain file.now _ option plain)
frame_parted command text (Farewell file) (e, plain) =
    let option : file.now ≡ codes "--frame=" ++ text = cc in absurd (not_plain file.now _ option plain)
frame_parted command text (Listen file false) (e, plain) =
    let option : file.now ≡ codes "--frame=" ++ text = cc in absurd (not_plain file.now _ option plain)
frame_parted command text (Listen file true) (inl e, plain) = absurd (cc)
frame_parted command text (Listen file true) (inr e, plain) = absurd (cc)
frame_parted command text (CheckSite file) (inl e, plain) = absurd (cc)
frame_parted command text (CheckSite file) (inr e, plain) = absurd (cc)
frame_parted command text (CheckHost file) (inl e, plain) = absurd (cc)
frame_parted command text (CheckHost file) (inr e, plain) = absurd (cc)
frame_parted command text (Networks file false) (e, plain) =
    let option : file.now ≡ codes "--frame=" ++ text = cc in absurd (not_plain file.now _ option plain)
frame_parted command text (Networks file true) (inl e, plain) = absurd (cc)
frame_parted command text (Networks file true) (inr e, plain) = absurd (cc)
frame_parted command text (Services file false) (e, plain) =
    let option : file.now ≡ codes "--frame=" ++ text = cc in absurd (not_plain file.now _ option plain)
frame_parted command text (Services file true) (inl e, plain) = absurd (cc)
frame_parted command text (Services file true) (inr e, plain) = absurd (cc)
frame_parted command text (ServicesOf file kind false) (e, plain, also) = absurd (cc)
frame_parted command text (ServicesOf file kind true) (inl e, plain, also) = absurd (cc)
frame_parted command text (ServicesOf file kind true) (inr (inl e), plain, also) = absurd (cc)
frame_parted command text (ServicesOf file kind true) (inr (inr e), plain, also) = absurd (cc)
frame_parted command text _ asks = absurd (cc)

pub frame_found_joined : (command text word : List ℕ) (found : Option Task) → word ≡ codes "--frame=" ++ text
    → Finds (AsksFor (command ∷ codes "--frame" ∷ text ∷ [])) found → Finds (AsksFor (command ∷ word ∷ [])) found
frame_found_joined command text word None is none =
    λ task asks. none task (frame_parted command text task (subst (λ w. AsksFor (command ∷ w ∷ []) task) is asks))
frame_found_joined command text word (Some task) is asks =
    subst (λ w. AsksFor (command ∷ w ∷ []) task) (sym is) (frame_joined command text task asks)
