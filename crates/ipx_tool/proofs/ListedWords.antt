-- The words of a list after its first, and how many there may be.
use Rattle.std.proofs.Common.{◌≡◌, ◌≢◌, ◌≤◌, ◌<◌, ℕ, true, false, inl, inr, List, [], ◌∷◌, length, map, drop, get_or, length-drop, Option, arith, ap, sym, subst, ◌∙◌}
use Rattle.std.proofs.lemmas.List.{length-map}
use Rattle.ipx_tool.specs.declared.words.Task.{Task}
use Rattle.ipx_tool.specs.declared.words.Task.TheVariants.{Hop, Show, ShowFrames, Check, Sim, Udp, Ipxnet, Route, Farewell, CheckSite, Listen, CheckHost, Send, Networks, Services, ServicesOf, Ping, PingTimes}
use Rattle.ipx_tool.specs.Words.{AsksFor, Finds}

-- the number of words
none_so_many : (words : List (List ℕ)) → length words ≢ 2 → length words ≢ 3 → length words ≢ 4 → length words ≢ 5 → length words ≢ 6 → length words ≢ 8
    → (task : Task) → AsksFor (drop 1 words) task → ⊥
none_so_many words two three four five six eight Hop asks = omega (arith, length-drop 1 words, ap length asks)
none_so_many words two three four five six eight (Show packet) (e, plain) = omega (arith, length-drop 1 words, ap length e)
none_so_many words two three four five six eight (ShowFrames node) (text, is, inl e) = omega (arith, length-drop 1 words, ap length e)
none_so_many words two three four five six eight (ShowFrames node) (text, is, inr e) = omega (arith, length-drop 1 words, ap length e)
none_so_many words two three four five six eight Check asks = omega (arith, length-drop 1 words, ap length asks)
none_so_many words two three four five six eight Sim asks = omega (arith, length-drop 1 words, ap length asks)
none_so_many words two three four five six eight (Udp port) (inl (e, is)) = omega (arith, length-drop 1 words, ap length e)
none_so_many words two three four five six eight (Udp port) (inr (text, is, inl e)) = omega (arith, length-drop 1 words, ap length e)
none_so_many words two three four five six eight (Udp port) (inr (text, is, inr e)) = omega (arith, length-drop 1 words, ap length e)
none_so_many words two three four five six eight (Ipxnet port) (inl (e, is)) = omega (arith, length-drop 1 words, ap length e)
none_so_many words two three four five six eight (Ipxnet port) (inr (text, is, inl e)) = omega (arith, length-drop 1 words, ap length e)
none_so_many words two three four five six eight (Ipxnet port) (inr (text, is, inr e)) = omega (arith, length-drop 1 words, ap length e)
none_so_many words two three four five six eight (Route file) (e, plain) = omega (arith, length-drop 1 words, ap length e)
none_so_many words two three four five six eight (Farewell file) (e, plain) = omega (arith, length-drop 1 words, ap length e)
none_so_many words two three four five six eight (Listen file false) (e, plain) = omega (arith, length-drop 1 words, ap length e)
none_so_many words two three four five six eight (Listen file true) (inl e, plain) = omega (arith, length-drop 1 words, ap length e)
none_so_many words two three four five six eight (Listen file true) (inr e, plain) = omega (arith, length-drop 1 words, ap length e)
none_so_many words two three four five six eight (CheckSite file) (inl e, plain) = omega (arith, length-drop 1 words, ap length e)
none_so_many words two three four five six eight (CheckSite file) (inr e, plain) = omega (arith, length-drop 1 words, ap length e)
none_so_many words two three four five six eight (CheckHost file) (inl e, plain) = omega (arith, length-drop 1 words, ap length e)
none_so_many words two three four five six eight (CheckHost file) (inr e, plain) = omega (arith, length-drop 1 words, ap length e)
none_so_many words two three four five six eight (Send file target) asks = omega (arith, length-drop 1 words, ap length asks.0)
none_so_many words two three four five six eight (Networks file false) (e, plain) = omega (arith, length-drop 1 words, ap length e)
none_so_many words two three four five six eight (Networks file true) (inl e, plain) = omega (arith, length-drop 1 words, ap length e)
none_so_many words two three four five six eight (Networks file true) (inr e, plain) = omega (arith, length-drop 1 words, ap length e)
none_so_many words two three four five six eight (Services file false) (e, plain) = omega (arith, length-drop 1 words, ap length e)
none_so_many words two three four five six eight (Services file true) (inl e, plain) = omega (arith, length-drop 1 words, ap length e)
none_so_many words two three four five six eight (Services file true) (inr e, plain) = omega (arith, length-drop 1 words, ap length e)
none_so_many words two three four five six eight (ServicesOf file kind false) (e, plain, also) = omega (arith, length-drop 1 words, ap length e)
none_so_many words two three four five six eight (ServicesOf file kind true) (inl e, plain, also) = omega (arith, length-drop 1 words, ap length e)
none_so_many words two three four five six eight (ServicesOf file kind true) (inr (inl e), plain, also) = omega (arith, length-drop 1 words, ap length e)
none_so_many words two three four five six eight (ServicesOf file kind true) (inr (inr e), plain, also) = omega (arith, length-drop 1 words, ap length e)
none_so_many words two three four five six eight (Ping file target) (e, plain, also) = omega (arith, length-drop 1 words, ap length e)
none_so_many words two three four five six eight (PingTimes file target count) (u, v, w, x, y, z, e, said, is, among, also) = omega (arith, length-drop 1 words, ap length e)

module _ {A : Type 0} (text : A → List ℕ) where
  pub none_behind : (ws : List A) → length ws ≢ 2 → length ws ≢ 3 → length ws ≢ 4 → length ws ≢ 5 → length ws ≢ 6 → length ws ≢ 8
      → (task : Task) → AsksFor (drop 1 (map text ws)) task → ⊥
  none_behind ws two three four five six eight =
      let same = length-map ws text in
      none_so_many (map text ws) (λ e. two (sym same ∙ e)) (λ e. three (sym same ∙ e)) (λ e. four (sym same ∙ e)) (λ e. five (sym same ∙ e)) (λ e. six (sym same ∙ e)) (λ e. eight (sym same ∙ e))

  pub after_two : (ws : List A) (b : A) → 2 ≤ length ws → length ws < 3 → b ≡ get_or ws 1 b → text b ∷ [] ≡ drop 1 (map text ws)
  after_two (a ∷ x ∷ []) b most least second = λ i. text (second i) ∷ []
  after_two _ b most least second = absurd (omega arith)

  pub after_three : (ws : List A) (b c : A) → 3 ≤ length ws → length ws < 4 → b ≡ get_or ws 1 b → c ≡ get_or ws 2 c
      → text b ∷ text c ∷ [] ≡ drop 1 (map text ws)
  after_three (a ∷ x ∷ y ∷ []) b c most least second third = λ i. text (second i) ∷ text (third i) ∷ []
  after_three _ b c most least second third = absurd (omega arith)

  pub after_four : (ws : List A) (b c d : A) → 4 ≤ length ws → length ws < 5 → b ≡ get_or ws 1 b → c ≡ get_or ws 2 c
      → d ≡ get_or ws 3 d → text b ∷ text c ∷ text d ∷ [] ≡ drop 1 (map text ws)
  after_four (a ∷ x ∷ y ∷ z ∷ []) b c d most least second third fourth =
      λ i. text (second i) ∷ text (third i) ∷ text (fourth i) ∷ []
  after_four _ b c d most least second third fourth = absurd (omega arith)

  pub after_five : (ws : List A) (b c d e : A) → 5 ≤ length ws → length ws < 6 → b ≡ get_or ws 1 b → c ≡ get_or ws 2 c
      → d ≡ get_or ws 3 d → e ≡ get_or ws 4 e → text b ∷ text c ∷ text d ∷ text e ∷ [] ≡ drop 1 (map text ws)
  after_five (a ∷ w ∷ x ∷ y ∷ z ∷ []) b c d e most least second third fourth fifth =
      λ i. text (second i) ∷ text (third i) ∷ text (fourth i) ∷ text (fifth i) ∷ []
  after_five _ b c d e most least second third fourth fifth = absurd (omega arith)

  pub after_six : (ws : List A) (b c d e f : A) → 6 ≤ length ws → length ws < 7 → b ≡ get_or ws 1 b → c ≡ get_or ws 2 c
      → d ≡ get_or ws 3 d → e ≡ get_or ws 4 e → f ≡ get_or ws 5 f
      → text b ∷ text c ∷ text d ∷ text e ∷ text f ∷ [] ≡ drop 1 (map text ws)
  after_six (a ∷ v ∷ w ∷ x ∷ y ∷ z ∷ []) b c d e f most least second third fourth fifth sixth =
      λ i. text (second i) ∷ text (third i) ∷ text (fourth i) ∷ text (fifth i) ∷ text (sixth i) ∷ []
  after_six _ b c d e f most least second third fourth fifth sixth = absurd (omega arith)

  pub after_eight : (ws : List A) (b c d e f g h : A) → 8 ≤ length ws → length ws < 9 → b ≡ get_or ws 1 b → c ≡ get_or ws 2 c
      → d ≡ get_or ws 3 d → e ≡ get_or ws 4 e → f ≡ get_or ws 5 f → g ≡ get_or ws 6 g → h ≡ get_or ws 7 h
      → text b ∷ text c ∷ text d ∷ text e ∷ text f ∷ text g ∷ text h ∷ [] ≡ drop 1 (map text ws)
  after_eight (a ∷ t ∷ u ∷ v ∷ w ∷ x ∷ y ∷ z ∷ []) b c d e f g h most least second third fourth fifth sixth seventh eighth =
      λ i. text (second i) ∷ text (third i) ∷ text (fourth i) ∷ text (fifth i) ∷ text (sixth i) ∷ text (seventh i) ∷ text (eighth i) ∷ []
  after_eight _ b c d e f g h most least second third fourth fifth sixth seventh eighth = absurd (omega arith)

-- what is found for words is found for the same words
pub found_for : {words same : List (List ℕ)} (found : Option Task) → words ≡ same → Finds (AsksFor words) found → Finds (AsksFor same) found
found_for found are finds = subst (λ (ws : List (List ℕ)). Finds (AsksFor ws) found) are finds
