use Rattle.std.proofs.Common.{◌≡◌, ◌∙◌, ap, sym, ◌++◌, ◌∷◌, [], length, Some, Option, List, slice_get, slice_set}
use Rattle.std.specs.Option.{option_copied_mut}
use Rattle.circular_buffer.specs.Buffer.{buffer}
use Rattle.spx_link.specs.Units.{unit_in}
use Rattle.spx_link.specs.declared.unit.Unit.{Unit}
use Rattle.spx_link.proofs.Gaps.{came, last_read, last_written}
use Rattle.spx_link.proofs.buffers.push_shorter.Goals as goal

pub returns-in-Some : goal.returns-in-Some
returns-in-Some c =
    let items : List (Option Unit) = c.args.ring.now.items in
    let capacity = c.args.ring.now.capacity in
    let blank : Option Unit = c.blank.result in
    let pushed : c.try_push_back-full.new.self ≡ buffer (items ++ blank ∷ []) capacity = came c.try_push_back-full.result (c.try_push_back-full.new.self ≡ buffer (items ++ blank ∷ []) capacity) (c.try_push_back-full.ensures.variant.1 c.requires.room) c.try_push_back-full.ensures.ok in
    ap (λ b. buffer (slice_set b.items c.len-place.result c.copy_body.new.self) b.capacity) pushed
    ∙ ap (λ n. buffer (slice_set (items ++ blank ∷ []) n c.copy_body.new.self) capacity) c.len-place.ensures.len
    ∙ ap (λ xs. buffer xs capacity) (last_written items blank c.copy_body.new.self)
    ∙ ap (λ x. buffer (items ++ x ∷ []) capacity) c.copy_body.ensures

pub returns-in_default : goal.returns-in_default
returns-in_default c =
    let items : List (Option Unit) = c.args.ring.now.items in
    let capacity = c.args.ring.now.capacity in
    let blank : Option Unit = c.blank.result in
    let pushed : c.try_push_back-full.new.self ≡ buffer (items ++ blank ∷ []) capacity = came c.try_push_back-full.result (c.try_push_back-full.new.self ≡ buffer (items ++ blank ∷ []) capacity) (c.try_push_back-full.ensures.variant.1 c.requires.room) c.try_push_back-full.ensures.ok in
    let there : slice_get c.try_push_back-full.new.self.items c.len-place.result ≡ Some blank =
    ap (λ b. slice_get b.items c.len-place.result) pushed ∙ ap (slice_get (items ++ blank ∷ [])) c.len-place.ensures.len ∙ last_read items blank in
    let none = sym c.get_mut.ensures.value ∙ ap option_copied_mut c.in_default.is in
    cc (there, none)
