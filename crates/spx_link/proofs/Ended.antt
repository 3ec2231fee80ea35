-- Which of the answers to a unit that is kept comes, and where the unit then stands.
use Rattle.std.proofs.Common.{◌≡◌, ℕ, ◌+◌, ◌↔◌, true, false, refl, ap, ◌∙◌, List, ◌++◌, map, length, Bool, Option, Some, slice_get}
use Rattle.ipx_wire.specs.declared.spx.packet.SpxHeader.{SpxHeader}
use Rattle.spx_link.specs.declared.unit.Unit as units
use Rattle.spx_link.specs.declared.received.Received.{Received}
use Rattle.spx_link.specs.declared.received.Received.TheVariants.{Joined, Kept, Repeat, Ahead, OverAllocation, System, PeerEnded, Confirmed, Stranger}
use Rattle.spx_link.specs.LinkView.{LinkView}
use Rattle.spx_link.specs.SequenceMarks.{distance}
use Rattle.spx_link.specs.Receive.{is_kept, any_end, receive_link}
use Rattle.spx_link.specs.LinkTurns.{IsInTurn, kept, kept_with, newly_held}
use Rattle.spx_link.specs.Units.{unit_in}
use Rattle.spx_link.proofs.Laying.{leading_joins, put_read, after_held}
use Rattle.spx_link.proofs.Reading.{receive_says}

-- an answer that keeps is one of the two
the_end_of : (r : Received) → is_kept r ≡ true → (r ≡ Kept → ⊥) → r ≡ PeerEnded
the_end_of Joined kept not_kept = cc
the_end_of Kept kept not_kept = absurd (not_kept refl)
the_end_of Repeat kept not_kept = cc
the_end_of Ahead kept not_kept = cc
the_end_of OverAllocation kept not_kept = cc
the_end_of System kept not_kept = cc
the_end_of PeerEnded kept not_kept = refl
the_end_of Confirmed kept not_kept = cc
the_end_of Stranger kept not_kept = cc

unlike : (b : Bool) → b ≡ false → b ≡ true → ⊥
unlike true e f = cc
unlike false e f = cc

pub end_alone : (l : LinkView) (h : SpxHeader) (body : List ℕ) → ((receive_link l h body).0 ≡ PeerEnded) ↔ (IsInTurn l h × (any_end (newly_held l h body) ≡ true))
end_alone l h body =
    let says = receive_says l h body in (
      λ e. (says.turns.0 (ap is_kept e), says.ends e),
      λ both. the_end_of (receive_link l h body).0 (says.turns.1 both.0) (λ kept. unlike (any_end (newly_held l h body)) (says.goes_on kept) both.1),
    )

-- the unit stands at its place, counted from the first unit held
pub at_its_place : (l : LinkView) (h : SpxHeader) (body : List ℕ) → (receive_link l h body).0 ≡ Kept → slice_get (kept (receive_link l h body).1) (length l.held + distance h.seq l.expected) ≡ Some (Some (unit_in h body))
at_its_place l h body e =
    let says = receive_says l h body in
    let us : List units.Unit = newly_held l h body in
    let xs : List (Option units.Unit) = kept_with l h body in
    let held = says.held (ap is_kept e) in
    let all : kept (receive_link l h body).1 ≡ map Some l.held ++ xs = ap (λ (vs : List units.Unit). map Some vs ++ (receive_link l h body).1.ahead) held ∙ ap (λ (ys : List (Option units.Unit)). map Some (l.held ++ us) ++ ys) (says.ahead e) ∙ leading_joins l.held xs in
    ap (λ (ys : List (Option units.Unit)). slice_get ys (length l.held + distance h.seq l.expected)) all ∙ after_held l.held xs (distance h.seq l.expected) ∙ put_read (distance h.seq l.expected) (unit_in h body) l.ahead
