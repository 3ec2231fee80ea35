use Rattle.std.proofs.Common.{◌≡◌, ◌++◌, ◌∷◌, [], codes, string_bytes, take}
use Rattle.std.specs.Fmt.{decimal}
use Rattle.std.specs.List.{flat_map}
use Rattle.ipx_site.specs.MetricsText.{sample_line}
use Rattle.ipx_site.proofs.family.put_each_of_port.Given as goal

-- the lines of its first metrics follow
abbrev pub invariant-loop-word : goal.invariant-loop-word
invariant-loop-word l =
    string_bytes l.text ≡ string_bytes l.initial.text ++ flat_map (λ m. sample_line l.family.name.now ((codes "port", decimal l.number) ∷ (l.label, m.0.now) ∷ [], m.1)) (take l.word-index l.metrics)
