use Rattle.std.proofs.Common.{◌≡◌, arith, inl, inr}
use Rattle.ipx_host.proofs.Hosted.{loaded_so, stopped_by, untouched_by}
use Rattle.ipx_host.proofs.listen.do_listen.Goals as goal

pub returns-clause-well : goal.returns-clause-well
returns-clause-well g c = λ zero.
    let it = loaded_so (c.listen_by.new.writer ≡ c.args.writer.now) _ c.load_host-loaded.result c.listen_by.result
    c.load_host-loaded.ensures.fault c.load_host-loaded.ensures.host c.listen_by.ensures.well c.listen_by.ensures.unloaded zero in
    (it.0, it.1, it.2, it.3, it.4.0, it.4.1)

pub returns-clause-untouched : goal.returns-clause-untouched
returns-clause-untouched g c = λ two.
    untouched_by (c.listen_by.new.writer ≡ c.args.writer.now) _ c.load_host-loaded.result c.listen_by.result c.listen_by.ensures.few (λ few. absurd (omega (arith, few, two))) c.listen_by.ensures.unloaded

pub returns-clause-stops : goal.returns-clause-stops
returns-clause-stops g c = λ one.
    elim (stopped_by (c.listen_by.new.writer ≡ c.args.writer.now) _ c.load_host-loaded.result c.listen_by.result c.load_host-loaded.ensures.host c.listen_by.ensures.stops c.listen_by.ensures.unloaded one) [
      | inl none ↦ inl none
      | inr it ↦ inr (it.0, it.1, it.2, it.3, it.4.0, it.4.1, it.4.2, it.4.3)
    ]
