-- The listening sockets, and how a change of their list affects the buffers of each.
use Rattle.std.proofs.Common.{◌≡◌, ◌≢◌, ℕ, List, [], ◌∷◌, ◌++◌, ◌==◌, position, refl, ap, None, Some, get_or, set, Option, option_map}
use Rattle.spx_messages.specs.declared.listening.Listener.{Listener}
use Rattle.spx_messages.specs.EndpointView.{buffers_in}
use Rattle.spx_messages.proofs.Keyed.{has, written, written_separate, pushed, pushed_separate, found_nowhere}

abbrev socket_of : Listener → ℕ
socket_of l = l.socket.0

abbrev buffers_of : Option Listener → Option ℕ
buffers_of o = option_map (λ (l : Listener). l.buffers) o

-- a listener replaces that of its socket
pub buffers_written : (ls : List Listener) (k : ℕ) (y : Listener) → position (λ (l : Listener). l.socket.0 == y.socket.0) ls ≡ Some k → buffers_in (set ls k y) y.socket.0 ≡ Some y.buffers
buffers_written ls k y is = ap buffers_of (written socket_of y.socket.0 ls k y is refl)

pub buffers_written_separate : (ls : List Listener) (k s : ℕ) (x y : Listener) → position (λ (l : Listener). l.socket.0 == y.socket.0) ls ≡ Some k → x ≡ get_or ls k x → s ≢ y.socket.0 → buffers_in (set ls k y) s ≡ buffers_in ls s
buffers_written_separate ls k s x y is read apart = ap buffers_of (written_separate socket_of y.socket.0 s ls k x y is read refl apart)

-- if no listener has the socket, it does not listen
pub not_listening : (ls : List Listener) (s : ℕ) → position (λ (l : Listener). l.socket.0 == s) ls ≡ None → buffers_in ls s ≡ None
not_listening ls s is = ap buffers_of (found_nowhere (has socket_of s) ls is)

-- a listener is added, of a socket that no other has
pub buffers_pushed : (ls : List Listener) (y : Listener) → position (λ (l : Listener). l.socket.0 == y.socket.0) ls ≡ None → buffers_in (ls ++ y ∷ []) y.socket.0 ≡ Some y.buffers
buffers_pushed ls y is = ap buffers_of (pushed socket_of y.socket.0 ls y (found_nowhere (has socket_of y.socket.0) ls is) refl)

pub buffers_pushed_separate : (ls : List Listener) (s : ℕ) (y : Listener) → s ≢ y.socket.0 → buffers_in (ls ++ y ∷ []) s ≡ buffers_in ls s
buffers_pushed_separate ls s y apart = ap buffers_of (pushed_separate socket_of y.socket.0 s ls y refl apart)
