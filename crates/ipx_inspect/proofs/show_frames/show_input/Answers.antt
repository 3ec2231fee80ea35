use Rattle.std.proofs.Common.{◌≡◌, ◌∙◌, ap, arith, map}
use Rattle.std.proofs.lemmas.List.{length-map}
use Rattle.ipx_inspect.specs.CheckLine.{input_lines}
use Rattle.ipx_inspect.specs.ShownFrame.{frame_texts}
use Rattle.ipx_inspect.proofs.Texts.{few_texts, input_left, input_written, none_left}
use Rattle.ipx_inspect.proofs.show_frames.show_input.Goals as goal

pub show_texts-requires : goal.show_texts-requires
show_texts-requires g c =
    let is = ap (map (λ t. t.now)) c.deref.ensures.value ∙ c.in-Ok.ensures in
    let few = few_texts c.args.input.now c.cut_line_end.result.now (map (λ t. t.now) c.deref.result.now) c.if-input-gt-MAX_INPUT.false c.cut_line_end.ensures.within is in
    omega (arith, few, length-map c.deref.result.now (λ t. t.now))

pub returns-clause-written : goal.returns-clause-written
returns-clause-written g c =
    let texts = map (λ t. t.now) c.deref.result.now in
    let is : texts ≡ frame_texts c.args.input.now = ap (map (λ t. t.now)) c.deref.ensures.value ∙ c.in-Ok.ensures ∙ ap input_lines c.cut_line_end.ensures.value in
    input_written c.show_texts.result c.args.own c.args.input.now texts (g.W.Write.contents c.args.writer.now) (g.W.Write.contents c.show_texts.new.writer) c.if-input-gt-MAX_INPUT.false is c.show_texts.ensures.written

pub returns-clause-left : goal.returns-clause-left
returns-clause-left g c =
    let texts = map (λ t. t.now) c.deref.result.now in
    let is : texts ≡ frame_texts c.args.input.now = ap (map (λ t. t.now)) c.deref.ensures.value ∙ c.in-Ok.ensures ∙ ap input_lines c.cut_line_end.ensures.value in
    input_left c.show_texts.result c.args.own c.args.input.now texts (g.W.Write.contents c.args.writer.now) (g.W.Write.contents c.show_texts.new.writer) c.if-input-gt-MAX_INPUT.false is c.show_texts.ensures.left

pub returns-in_default-clause-left : goal.returns-in_default-clause-left
returns-in_default-clause-left g c =
    none_left c.args.own c.args.input.now (g.W.Write.contents c.args.writer.now) (g.W.Write.contents c.tell_no_memory.new.writer) c.if-input-gt-MAX_INPUT.false c.tell_no_memory.ensures.left
