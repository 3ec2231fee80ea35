-- The words that ask for services of a type, with `--json` at any place among them.
use Rattle.std.proofs.Common.{◌≢◌, ℕ, true, false, true≢false, inl, inr, List, [], ◌∷◌, Option, Some, None, codes, sym, subst, refl}
use Rattle.ipx_tool.specs.declared.words.Task.{Task}
use Rattle.ipx_tool.specs.declared.words.Task.TheVariants.{ShowFrames, Udp, Ipxnet, CheckSite, Listen, CheckHost, Networks, Services, ServicesOf}
use Rattle.ipx_tool.specs.Words.{AreTypeWords, AsksFor, Finds, IsOfType, IsPlain}
use Rattle.ipx_tool.proofs.WordsSeparate.{first, fourth, not_plain, second, third}

-- a command and two words that are none of these options ask for services of a type alone
pub record NoOptions (file kind : List ℕ) : Type 0 where
  pub port : file ≢ codes "--port"
  pub once : file ≢ codes "--once"
  pub check : file ≢ codes "--check"
  pub json : file ≢ codes "--json"
  pub frame : file ≢ codes "--frame"
  pub once_after : kind ≢ codes "--once"
  pub check_after : kind ≢ codes "--check"
  pub json_after : kind ≢ codes "--json"

typed : (command file kind : List ℕ) (task : Task) → NoOptions file kind
    → AsksFor (command ∷ file ∷ kind ∷ []) task → IsOfType command file kind false task
typed command file kind (Udp port) none (inl asks) = absurd (cc)
typed command file kind (Udp port) none (inr (text, is, inl e)) = absurd (none.port (second e))
typed command file kind (Udp port) none (inr (text, is, inr e)) = absurd (cc)
typed command file kind (Ipxnet port) none (inl asks) = absurd (cc)
typed command file kind (Ipxnet port) none (inr (text, is, inl e)) = absurd (none.port (second e))
typed command file kind (Ipxnet port) none (inr (text, is, inr e)) = absurd (cc)
typed command file kind (Listen other true) none (inl e, plain) = absurd (none.once (second e))
typed command file kind (Listen other true) none (inr e, plain) = absurd (none.once_after (third e))
typed command file kind (CheckSite other) none (inl e, plain) = absurd (none.check (second e))
typed command file kind (CheckSite other) none (inr e, plain) = absurd (none.check_after (third e))
typed command file kind (CheckHost other) none (inl e, plain) = absurd (none.check (second e))
typed command file kind (CheckHost other) none (inr e, plain) = absurd (none.check_after (third e))
typed command file kind (ShowFrames node) none (text, is, inl e) = absurd (none.frame (second e))
typed command file kind (ShowFrames node) none (text, is, inr e) = absurd (cc)
typed command file kind (Networks other true) none (inl e, plain) = absurd (none.json (second e))
typed command file kind (Networks other true) none (inr e, plain) = absurd (none.json_after (third e))
typed command file kind (Services other true) none (inl e, plain) = absurd (none.json (second e))
typed command file kind (Services other true) none (inr e, plain) = absurd (none.json_after (third e))
typed command file kind (ServicesOf other another false) none (e, plain, also) =
    (first e, sym (second e), sym (third e), refl, subst IsPlain (sym (second e)) plain, subst IsPlain (sym (third e)) also)
typed command file kind (ServicesOf other another true) none (inl e, plain, also) = absurd (cc)
typed command file kind (ServicesOf other another true) none (inr (inl e), plain, also) = absurd (cc)
typed command file kind (ServicesOf other another true) none (inr (inr e), plain, also) = absurd (cc)
typed command file kind _ none asks = absurd (cc)

of_type : (command file kind : List ℕ) (task : Task) → IsOfType command file kind false task → AsksFor (command ∷ file ∷ kind ∷ []) task
of_type command file kind (ServicesOf other another false) (name, same, kinds, json, plain, also) =
    ((λ i. name i ∷ sym same i ∷ sym kinds i ∷ []), subst IsPlain (sym same) plain, subst IsPlain (sym kinds) also)
of_type command file kind (ServicesOf other another true) (name, same, kinds, json, plain, also) = absurd (true≢false json)
of_type command file kind _ is = absurd is

pub found_typed : (command file kind : List ℕ) (found : Option Task) → NoOptions file kind
    → Finds (IsOfType command file kind false) found → Finds (AsksFor (command ∷ file ∷ kind ∷ [])) found
found_typed command file kind None options none = λ task asks. none task (typed command file kind task options asks)
found_typed command file kind (Some task) options is = of_type command file kind task is

-- three words after a command ask only for the services of a type
abbrev IsTyped : List (List ℕ) → Task → Type 0
IsTyped words (ServicesOf file kind true) = AreTypeWords words (codes "services") file.now kind.now true
    × IsPlain file.now × IsPlain kind.now
IsTyped words task = ⊥

of_four : (a b c d : List ℕ) (task : Task) → AsksFor (a ∷ b ∷ c ∷ d ∷ []) task → IsTyped (a ∷ b ∷ c ∷ d ∷ []) task
of_four a b c d (ShowFrames node) (text, is, inl e) = absurd (cc)
of_four a b c d (ShowFrames node) (text, is, inr e) = absurd (cc)
of_four a b c d (Udp port) (inl asks) = absurd (cc)
of_four a b c d (Udp port) (inr (text, is, inl e)) = absurd (cc)
of_four a b c d (Udp port) (inr (text, is, inr e)) = absurd (cc)
of_four a b c d (Ipxnet port) (inl asks) = absurd (cc)
of_four a b c d (Ipxnet port) (inr (text, is, inl e)) = absurd (cc)
of_four a b c d (Ipxnet port) (inr (text, is, inr e)) = absurd (cc)
of_four a b c d (Listen file true) (inl e, plain) = absurd (cc)
of_four a b c d (Listen file true) (inr e, plain) = absurd (cc)
of_four a b c d (CheckSite file) (inl e, plain) = absurd (cc)
of_four a b c d (CheckSite file) (inr e, plain) = absurd (cc)
of_four a b c d (CheckHost file) (inl e, plain) = absurd (cc)
of_four a b c d (CheckHost file) (inr e, plain) = absurd (cc)
of_four a b c d (Networks file true) (inl e, plain) = absurd (cc)
of_four a b c d (Networks file true) (inr e, plain) = absurd (cc)
of_four a b c d (Services file true) (inl e, plain) = absurd (cc)
of_four a b c d (Services file true) (inr e, plain) = absurd (cc)
of_four a b c d (ServicesOf file kind true) asks = asks
of_four a b c d _ asks = absurd (cc)

json_first : (command file kind : List ℕ) (task : Task) → IsTyped (command ∷ codes "--json" ∷ file ∷ kind ∷ []) task → IsOfType command file kind true task
json_first command file kind (ServicesOf other another true) (inl e, plain, also) =
    (first e, sym (third e), sym (fourth e), refl, subst IsPlain (sym (third e)) plain, subst IsPlain (sym (fourth e)) also)
json_first command file kind (ServicesOf other another true) (inr (inl e), plain, also) = absurd (not_plain other.now _ (sym (second e)) plain)
json_first command file kind (ServicesOf other another true) (inr (inr e), plain, also) = absurd (not_plain other.now _ (sym (second e)) plain)
json_first command file kind _ asks = absurd asks

json_between : (command file kind : List ℕ) (task : Task) → IsTyped (command ∷ file ∷ codes "--json" ∷ kind ∷ []) task → IsOfType command file kind true task
json_between command file kind (ServicesOf other another true) (inl e, plain, also) = absurd (not_plain other.now _ (sym (third e)) plain)
json_between command file kind (ServicesOf other another true) (inr (inl e), plain, also) =
    (first e, sym (second e), sym (fourth e), refl, subst IsPlain (sym (second e)) plain, subst IsPlain (sym (fourth e)) also)
json_between command file kind (ServicesOf other another true) (inr (inr e), plain, also) = absurd (not_plain another.now _ (sym (third e)) also)
json_between command file kind _ asks = absurd asks

json_last : (command file kind : List ℕ) (task : Task) → IsTyped (command ∷ file ∷ kind ∷ codes "--json" ∷ []) task → IsOfType command file kind true task
json_last command file kind (ServicesOf other another true) (inl e, plain, also) = absurd (not_plain another.now _ (sym (fourth e)) also)
json_last command file kind (ServicesOf other another true) (inr (inl e), plain, also) = absurd (not_plain another.now _ (sym (fourth e)) also)
json_last command file kind (ServicesOf other another true) (inr (inr e), plain, also) =
    (first e, sym (second e), sym (third e), refl, subst IsPlain (sym (second e)) plain, subst IsPlain (sym (third e)) also)
json_last command file kind _ asks = absurd asks

of_first : (command file kind : List ℕ) (task : Task) → IsOfType command file kind true task → AsksFor (command ∷ codes "--json" ∷ file ∷ kind ∷ []) task
of_first command file kind (ServicesOf other another true) (name, same, kinds, json, plain, also) =
    (inl (λ i. name i ∷ codes "--json" ∷ sym same i ∷ sym kinds i ∷ []), subst IsPlain (sym same) plain, subst IsPlain (sym kinds) also)
of_first command file kind (ServicesOf other another false) (name, same, kinds, json, plain, also) = absurd (true≢false (sym json))
of_first command file kind _ is = absurd is

of_between : (command file kind : List ℕ) (task : Task) → IsOfType command file kind true task → AsksFor (command ∷ file ∷ codes "--json" ∷ kind ∷ []) task
of_between command file kind (ServicesOf other another true) (name, same, kinds, json, plain, also) =
    (inr (inl (λ i. name i ∷ sym same i ∷ codes "--json" ∷ sym kinds i ∷ [])), subst IsPlain (sym same) plain, subst IsPlain (sym kinds) also)
of_between command file kind (ServicesOf other another false) (name, same, kinds, json, plain, also) = absurd (true≢false (sym json))
of_between command file kind _ is = absurd is

of_last : (command file kind : List ℕ) (task : Task) → IsOfType command file kind true task → AsksFor (command ∷ file ∷ kind ∷ codes "--json" ∷ []) task
of_last command file kind (ServicesOf other another true) (name, same, kinds, json, plain, also) =
    (inr (inr (λ i. name i ∷ sym same i ∷ sym kinds i ∷ codes "--json" ∷ [])), subst IsPlain (sym same) plain, subst IsPlain (sym kinds) also)
of_last command file kind (ServicesOf other another false) (name, same, kinds, json, plain, also) = absurd (true≢false (sym json))
of_last command file kind _ is = absurd is

pub found_first : (command file kind : List ℕ) (found : Option Task) → Finds (IsOfType command file kind true) found
    → Finds (AsksFor (command ∷ codes "--json" ∷ file ∷ kind ∷ [])) found
found_first command file kind None none = λ task asks. none task (json_first command file kind task (of_four command (codes "--json") file kind task asks))
found_first command file kind (Some task) is = of_first command file kind task is

pub found_between : (command file kind : List ℕ) (found : Option Task) → Finds (IsOfType command file kind true) found
    → Finds (AsksFor (command ∷ file ∷ codes "--json" ∷ kind ∷ [])) found
found_between command file kind None none = λ task asks. none task (json_between command file kind task (of_four command file (codes "--json") kind task asks))
found_between command file kind (Some task) is = of_between command file kind task is

pub found_last : (command file kind : List ℕ) (found : Option Task) → Finds (IsOfType command file kind true) found
    → Finds (AsksFor (command ∷ file ∷ kind ∷ codes "--json" ∷ [])) found
found_last command file kind None none = λ task asks. none task (json_last command file kind task (of_four command file kind (codes "--json") task asks))
found_last command file kind (Some task) is = of_last command file kind task is

-- one of the three is `--json`
json_there : (a b c d : List ℕ) (task : Task) → b ≢ codes "--json" → c ≢ codes "--json" → d ≢ codes "--json"
    → IsTyped (a ∷ b ∷ c ∷ d ∷ []) task → ⊥
json_there a b c d (ServicesOf other another true) one two three (inl e, plain, also) = one (second e)
json_there a b c d (ServicesOf other another true) one two three (inr (inl e), plain, also) = two (third e)
json_there a b c d (ServicesOf other another true) one two three (inr (inr e), plain, also) = three (fourth e)
json_there a b c d _ one two three asks = absurd asks

pub none_of_four : (a b c d : List ℕ) → b ≢ codes "--json" → c ≢ codes "--json" → d ≢ codes "--json"
    → (task : Task) → AsksFor (a ∷ b ∷ c ∷ d ∷ []) task → ⊥
none_of_four a b c d one two three task asks = json_there a b c d task one two three (of_four a b c d task asks)
