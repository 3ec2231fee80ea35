use Rattle.std.proofs.Common.{◌≡◌, ◌∙◌, ℕ, Bool, List, true, false, ap, map, sym}
use Rattle.std.specs.Prelude.{◌==◌, ◌||◌}
use Rattle.std.specs.Str.{bytes_eq}
use Rattle.ipx_table_dump.specs.TableRead.{ServiceSpelled, service_spelled}
use Rattle.ipx_query_cmd.specs.OperatorLines.{type_digits}
use Rattle.ipx_query_cmd.proofs.Rows.{passed_kept, pushed_kept}
use Rattle.ipx_query_cmd.proofs.known_service_lines.services_of_type.Goals.{then-is_of_type+in_ok-push, else-is_of_type}
use Rattle.ipx_query_cmd.proofs.known_service_lines.services_of_type.Goals as goal

-- a word is a type by these digits, which are those of the type
told : (kind : ℕ) (digits word : List ℕ) (is : Bool) → is ≡ ((kind == 0xffff) || bytes_eq word digits) → digits ≡ type_digits kind → ((kind == 0xffff) || bytes_eq word (type_digits kind)) ≡ is
told kind digits word is by same = sym (by ∙ ap (λ d. (kind == 0xffff) || bytes_eq word d) same)

pub loop-service-preserved : goal.loop-service-preserved
loop-service-preserved c =
    let services = c.args.services.now in
    let kind = c.args.kind in
    let i = c.loop-service.service-index in
    let old = c.loop-service.found.items in
    let of_type = λ (s : ServiceSpelled). (kind == 0xffff) || bytes_eq s.kind (type_digits kind) in
    let digits = c.as_bytes.ensures.value ∙ c.in_ok-digits.ensures in
    elim c.if-is_of_type.branch [
      | then-is_of_type+in_ok-push w ↦
          ap (λ v. map service_spelled v.items) w.found-is
          ∙ pushed_kept of_type service_spelled services i _ c.loop-service-test.true old c.loop-service.invariant w.push.new.self.items (told kind _ _ true w.if-is_of_type.ensures digits) w.in_ok-push.ensures.items
      | else-is_of_type w ↦
          ap (λ v. map service_spelled v.items) w.found-is
          ∙ passed_kept of_type service_spelled services i _ c.loop-service-test.true old c.loop-service.invariant (told kind _ _ false w.if-is_of_type.ensures digits)
    ]
