use Rattle.std.proofs.Common.{◌≡◌, ℕ, List, Result, Ok, Err, Some, refl, subst}
use Rattle.std.specs.Net.Grammar.{IsSocketV4Text, Parses}
use Rattle.std.specs.Net.Text.{socket_v4_text}
use Rattle.std.specs.declared.net.socket_addr.SocketAddrV4.{SocketAddrV4}
use Rattle.std.proofs.NetLemmas.Theorems.{parse-socket_v4_text}
use Rattle.ipx_table_dump.proofs.client_words.place_in.Goals as goal

some_of : (a b : SocketAddrV4) (r : Result SocketAddrV4 ℕ) → r ≡ Ok a → r ≡ Ok b → Some a ≡ Some b
some_of a b r e f = cc

none_of : {P : Type 0} (b : SocketAddrV4) (r : Result SocketAddrV4 ℕ) → r ≡ Err 0 → r ≡ Ok b → P
none_of b r e f = absurd (let no : ⊥ = cc in no)

pub returns-in-Ok : goal.returns-in-Ok
returns-in-Ok c a fits is =
    let r : Result SocketAddrV4 ℕ = Ok c.in-Ok.place in
    let told : Parses IsSocketV4Text (socket_v4_text a) r = subst (λ (t : List ℕ). IsSocketV4Text t c.in-Ok.place) is c.in-Ok.ensures in
    some_of c.in-Ok.place a r refl (parse-socket_v4_text a r fits told)

pub returns-in-Err : goal.returns-in-Err
returns-in-Err c a fits is =
    let r : Result SocketAddrV4 ℕ = Err 0 in
    let told : Parses IsSocketV4Text (socket_v4_text a) r = subst (λ (t : List ℕ). (b : SocketAddrV4) → IsSocketV4Text t b → ⊥) is c.in-Err.ensures in
    none_of a r refl (parse-socket_v4_text a r fits told)
