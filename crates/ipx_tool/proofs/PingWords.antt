-- The words that ask for pings, with a number at any place among them.
use Rattle.std.proofs.Common.{◌≡◌, ◌≢◌, ◌≤◌, ℕ, true, false, inl, inr, List, [], ◌∷◌, ◌++◌, length, drop, Option, Some, None, codes, arith, ap, sym, subst, refl, ◌∙◌}
use Rattle.std.proofs.lemmas.List.{length-append}
use Rattle.ipx_config.specs.declared.target.Target.{Target}
use Rattle.ipx_tool.specs.declared.words.Task.{Task}
use Rattle.ipx_tool.specs.declared.words.Task.TheVariants.{Hop, Show, ShowFrames, Check, Sim, Udp, Ipxnet, Route, Farewell, CheckSite, Listen, CheckHost, Send, Networks, Services, ServicesOf, Ping, PingTimes}
use Rattle.ipx_tool.specs.Words.{ArePlain, AsksFor, Finds, IsPingTimes, IsPlain, WritesNumber, IsOptionAmong, target_words}
use Rattle.ipx_tool.proofs.WordsSeparate.{fifth, first, fourth, not_plain, second, third}

-- none of these words is that one
abbrev pub Without : List ℕ → List (List ℕ) → Type 0
Without word [] = Unit {0}
Without word (w ∷ ws) = (w ≢ word) × Without word ws

plain_without : (ws : List (List ℕ)) → ArePlain ws → Without (codes "-c") ws
plain_without [] plain = tt
plain_without (w ∷ ws) plain = (λ e. not_plain w _ e plain.0, plain_without ws plain.1)

plain_front : (front back : List (List ℕ)) → ArePlain (front ++ back) → ArePlain front
plain_front [] back plain = tt
plain_front (w ∷ front) back plain = (plain.0, plain_front front back plain.1)

-- the place of a word is unique if no word before it is the same
same_place : (o t u : List ℕ) (xs ys vs ws : List (List ℕ)) → Without o xs → Without o vs → xs ++ o ∷ t ∷ ys ≡ vs ++ o ∷ u ∷ ws
    → (xs ≡ vs) × (t ≡ u) × (ys ≡ ws)
same_place o t u [] ys [] ws none free e = (refl, second e, ap (drop 2) e)
same_place o t u [] ys (v ∷ vs) ws none free e = absurd (free.0 (sym (first e)))
same_place o t u (x ∷ xs) ys [] ws none free e = absurd (none.0 (first e))
same_place o t u (x ∷ xs) ys (v ∷ vs) ws none free e =
    let rest = same_place o t u xs ys vs ws none.1 free.1 (ap (drop 1) e) in (λ i. first e i ∷ rest.0 i, rest.1, rest.2)

pub same_others : (text told : List ℕ) (others these rest left : List (List ℕ)) → IsOptionAmong (codes "-c") text others rest → IsOptionAmong (codes "-c") told these left
    → ArePlain others → ArePlain these → rest ≡ left → (others ≡ these) × (text ≡ told)
same_others text told others these rest left (front, back, o, w) (before, after, p, v) plain also same =
    let none = plain_without front (plain_front front back (subst ArePlain o plain)) in
    let free = plain_without before (plain_front before after (subst ArePlain p also)) in
    let one = same_place (codes "-c") text told front back before after none free (sym w ∙ same ∙ v) in
    (o ∙ (λ i. one.0 i ++ one.2 i) ∙ sym p, one.1)

-- as many words ask for pings by a number alone
abbrev IsTimed : List (List ℕ) → Task → Type 0
IsTimed words (PingTimes file target count) = AsksFor words (PingTimes file target count)
IsTimed words task = ⊥

-- what five words and more ask for
abbrev IsLong : List (List ℕ) → Task → Type 0
IsLong words (Send file target) = AsksFor words (Send file target)
IsLong words (Ping file target) = AsksFor words (Ping file target)
IsLong words (PingTimes file target count) = AsksFor words (PingTimes file target count)
IsLong words task = ⊥

long : (words : List (List ℕ)) (task : Task) → 5 ≤ length words → AsksFor words task → IsLong words task
long words (PingTimes file target count) many asks = asks
long words Hop many asks = absurd (omega (arith, many, ap length asks))
long words (Show packet) many (e, plain) = absurd (omega (arith, many, ap length e))
long words (ShowFrames node) many (text, is, inl e) = absurd (omega (arith, many, ap length e))
long words (ShowFrames node) many (text, is, inr e) = absurd (omega (arith, many, ap length e))
long words Check many asks = absurd (omega (arith, many, ap length asks))
long words Sim many asks = absurd (omega (arith, many, ap length asks))
long words (Udp port) many (inl (e, is)) = absurd (omega (arith, many, ap length e))
long words (Udp port) many (inr (text, is, inl e)) = absurd (omega (arith, many, ap length e))
long words (Udp port) many (inr (text, is, inr e)) = absurd (omega (arith, many, ap length e))
long words (Ipxnet port) many (inl (e, is)) = absurd (omega (arith, many, ap length e))
long words (Ipxnet port) many (inr (text, is, inl e)) = absurd (omega (arith, many, ap length e))
long words (Ipxnet port) many (inr (text, is, inr e)) = absurd (omega (arith, many, ap length e))
long words (Route file) many (e, plain) = absurd (omega (arith, many, ap length e))
long words (Farewell file) many (e, plain) = absurd (omega (arith, many, ap length e))
long words (Listen file false) many (e, plain) = absurd (omega (arith, many, ap length e))
long words (Listen file true) many (inl e, plain) = absurd (omega (arith, many, ap length e))
long words (Listen file true) many (inr e, plain) = absurd (omega (arith, many, ap length e))
long words (CheckSite file) many (inl e, plain) = absurd (omega (arith, many, ap length e))
long words (CheckSite file) many (inr e, plain) = absurd (omega (arith, many, ap length e))
long words (CheckHost file) many (inl e, plain) = absurd (omega (arith, many, ap length e))
long words (CheckHost file) many (inr e, plain) = absurd (omega (arith, many, ap length e))
long words (Send file target) many asks = asks
long words (Networks file false) many (e, plain) = absurd (omega (arith, many, ap length e))
long words (Networks file true) many (inl e, plain) = absurd (omega (arith, many, ap length e))
long words (Networks file true) many (inr e, plain) = absurd (omega (arith, many, ap length e))
long words (Services file false) many (e, plain) = absurd (omega (arith, many, ap length e))
long words (Services file true) many (inl e, plain) = absurd (omega (arith, many, ap length e))
long words (Services file true) many (inr e, plain) = absurd (omega (arith, many, ap length e))
long words (ServicesOf file kind false) many (e, plain, also) = absurd (omega (arith, many, ap length e))
long words (ServicesOf file kind true) many (inl e, plain, also) = absurd (omega (arith, many, ap length e))
long words (ServicesOf file kind true) many (inr (inl e), plain, also) = absurd (omega (arith, many, ap length e))
long words (ServicesOf file kind true) many (inr (inr e), plain, also) = absurd (omega (arith, many, ap length e))
long words (Ping file target) many asks = asks

long_timed : (words : List (List ℕ)) (task : Task) → 6 ≤ length words → IsLong words task → IsTimed words task
long_timed words (Send file target) many asks = absurd (omega (arith, many, ap length asks.0))
long_timed words (Ping file target) many asks = absurd (omega (arith, many, ap length asks.0))
long_timed words (PingTimes file target count) many asks = asks
long_timed words _ many asks = absurd asks

timed : (words : List (List ℕ)) (task : Task) → 6 ≤ length words → AsksFor words task → IsTimed words task
timed words task many asks = long_timed words task many (long words task (omega (arith, many)) asks)

-- if five words ask for anything, those after the command are no options
plain_long : (command file : List ℕ) (to : Target) (task : Task) → IsLong (command ∷ file ∷ target_words to) task → IsPlain file × ArePlain (target_words to)
plain_long command file to (Send other another) (e, p, q, r, s) =
    (subst IsPlain (sym (second e)) p, (subst IsPlain (sym (third e)) q, (subst IsPlain (sym (fourth e)) r, (subst IsPlain (sym (fifth e)) s, tt))))
plain_long command file to (Ping other another) (e, p, q) = (subst IsPlain (sym (second e)) p, subst ArePlain (sym (ap (drop 2) e)) q)
plain_long command file to (PingTimes other another count) (u, v, w, x, y, z, e, said, is, among, also) = absurd (omega (arith, ap length e))
plain_long command file to _ asks = absurd asks

pub plain_dialing : (command file : List ℕ) (to : Target) (task : Task) → AsksFor (command ∷ file ∷ target_words to) task → IsPlain file × ArePlain (target_words to)
plain_dialing command file to task asks = plain_long command file to task (long (command ∷ file ∷ target_words to) task (omega arith) asks)

-- a number somewhere among the words of a file and a target, with no `-c` before it
module _ (command a b c d e f text : List ℕ) (front back others : List (List ℕ)) where
  abbrev pub six : List (List ℕ)
  six = a ∷ b ∷ c ∷ d ∷ e ∷ f ∷ []

  times_of : (task : Task) → six ≡ front ++ codes "-c" ∷ text ∷ back → others ≡ front ++ back → Without (codes "-c") front
      → IsTimed (command ∷ six) task → IsPingTimes command others text task
  times_of (PingTimes file target count) shape is none (u, v, w, x, y, z, same, said, writes, (before, after, p, q), plain) =
      let free = plain_without before (plain_front before after (subst ArePlain p plain)) in
      let one = same_place (codes "-c") text said front back before after none free (sym shape ∙ ap (drop 1) same ∙ q) in
      let those : file.now ∷ target_words target ≡ others = p ∙ (λ i. sym one.0 i ++ sym one.2 i) ∙ sym is in
      (first same, those, subst (λ t. WritesNumber t count) (sym one.1) writes, subst ArePlain those plain)
  times_of _ shape is none asks = absurd asks

  of_times : (task : Task) → six ≡ front ++ codes "-c" ∷ text ∷ back → others ≡ front ++ back → IsPingTimes command others text task → AsksFor (command ∷ six) task
  of_times (PingTimes file target count) shape is (name, same, writes, plain) =
      (a, b, c, d, e, f, (λ i. name i ∷ six), text, writes, (front, back, same ∙ is, shape), subst ArePlain (sym same) plain)
  of_times _ shape is asks = absurd asks

  pub found_times : (found : Option Task) → six ≡ front ++ codes "-c" ∷ text ∷ back → others ≡ front ++ back → Without (codes "-c") front
      → Finds (IsPingTimes command others text) found → Finds (AsksFor (command ∷ a ∷ b ∷ c ∷ d ∷ e ∷ f ∷ [])) found
  found_times None shape is none nothing = λ task asks. nothing task (times_of task shape is none (timed (command ∷ six) task (omega arith) asks))
  found_times (Some task) shape is none found = of_times task shape is found

-- one of the first five is `-c`
no_place : (a b c d e f text : List ℕ) (front back : List (List ℕ)) → a ≢ codes "-c" → b ≢ codes "-c" → c ≢ codes "-c" → d ≢ codes "-c" → e ≢ codes "-c"
    → length front ≤ 4 → a ∷ b ∷ c ∷ d ∷ e ∷ f ∷ [] ≡ front ++ codes "-c" ∷ text ∷ back → ⊥
no_place a b c d e f text [] back na nb nc nd ne few is = na (first is)
no_place a b c d e f text (u ∷ []) back na nb nc nd ne few is = nb (second is)
no_place a b c d e f text (u ∷ v ∷ []) back na nb nc nd ne few is = nc (third is)
no_place a b c d e f text (u ∷ v ∷ w ∷ []) back na nb nc nd ne few is = nd (fourth is)
no_place a b c d e f text (u ∷ v ∷ w ∷ x ∷ []) back na nb nc nd ne few is = ne (fifth is)
no_place a b c d e f text (u ∷ v ∷ w ∷ x ∷ y ∷ front) back na nb nc nd ne few is = omega (arith, few)

none_timed : (command a b c d e f : List ℕ) → a ≢ codes "-c" → b ≢ codes "-c" → c ≢ codes "-c" → d ≢ codes "-c" → e ≢ codes "-c"
    → (task : Task) → IsTimed (command ∷ a ∷ b ∷ c ∷ d ∷ e ∷ f ∷ []) task → ⊥
none_timed command a b c d e f na nb nc nd ne (PingTimes file target count) (u, v, w, x, y, z, same, text, writes, (front, back, o, q), plain) =
    no_place a b c d e f text front back na nb nc nd ne (omega (arith, ap length o, length-append front back)) (ap (drop 1) same ∙ q)
none_timed command a b c d e f na nb nc nd ne _ asks = absurd asks

pub none_of_seven : (command a b c d e f : List ℕ) → a ≢ codes "-c" → b ≢ codes "-c" → c ≢ codes "-c" → d ≢ codes "-c" → e ≢ codes "-c"
    → (task : Task) → AsksFor (command ∷ a ∷ b ∷ c ∷ d ∷ e ∷ f ∷ []) task → ⊥
none_of_seven command a b c d e f na nb nc nd ne task asks =
    none_timed command a b c d e f na nb nc nd ne task (timed (command ∷ a ∷ b ∷ c ∷ d ∷ e ∷ f ∷ []) task (omega arith) asks)
