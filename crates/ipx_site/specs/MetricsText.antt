-- The text format of Prometheus ("Exposition formats", version 0.0.4), as far as the metrics file uses it.
-- The entry point is `families_text`.
use Rattle.std.specs.Prelude.{ℕ, List, [], ◌∷◌, ◌++◌, codes, map}
use Rattle.std.specs.Fmt.{decimal}
use Rattle.std.specs.List.{flat_map, join_by}

-- a metric: its labels, each a name and a value, and its number
abbrev pub Sample : Type 0
Sample = List (List ℕ × List ℕ) × ℕ

-- a metric family: its name, help text and type, and its metrics
pub record MetricFamily : Type 0 where
  pub name : List ℕ
  pub help : List ℕ
  pub kind : List ℕ
  pub samples : List Sample

-- the HELP and TYPE lines of a metric family with this name, help text and type
abbrev pub family_text : List ℕ → List ℕ → List ℕ → List ℕ
family_text name help kind =
    codes "# HELP " ++ (name ++ (codes " " ++ (help ++ (codes ".\n# TYPE " ++ (name ++ (codes " "
    ++ (kind ++ codes "\n")))))))

-- `label="value"`. No value in the metrics file has a character that needs an escape
abbrev pub label_text : List ℕ × List ℕ → List ℕ
label_text l = l.0 ++ (codes "=\"" ++ (l.1 ++ codes "\""))

-- labels are in braces, with commas between them; without labels there are no braces
abbrev pub labels_text : List (List ℕ × List ℕ) → List ℕ
labels_text [] = []
labels_text (l ∷ more) =
    codes "{" ++ (join_by label_text (codes ",") (l ∷ more) ++ codes "}")

-- `name{label="value"} number`
abbrev pub sample_line : List ℕ → Sample → List ℕ
sample_line name s = name ++ (labels_text s.0 ++ (codes " " ++ (decimal s.1 ++ codes "\n")))

-- a family is its HELP and TYPE lines, and a line for each metric
abbrev pub family_lines : MetricFamily → List ℕ
family_lines f = family_text f.name f.help f.kind ++ flat_map (sample_line f.name) f.samples

-- families one after the other
abbrev pub families_text : List MetricFamily → List ℕ
families_text families = flat_map family_lines families

-- one metric without labels
abbrev pub unlabelled : ℕ → List Sample
unlabelled number = ([], number) ∷ []

-- metrics that differ in the value of one label
abbrev pub by_label : List ℕ → List (List ℕ × ℕ) → List Sample
by_label label metrics = map (λ m. ((label, m.0) ∷ [], m.1)) metrics

-- a family of counters, which only grow, and one of gauges, which go up and down
abbrev pub counter : List ℕ → List ℕ → List Sample → MetricFamily
counter name help samples =
    record { name = name; help = help; kind = codes "counter"; samples = samples }

abbrev pub gauge : List ℕ → List ℕ → List Sample → MetricFamily
gauge name help samples = record { name = name; help = help; kind = codes "gauge"; samples = samples }

-- the metric of the port with this number
abbrev pub at_port : ℕ → ℕ → Sample
at_port number count = ((codes "port", decimal number) ∷ [], count)

-- metrics of the port with this number, which differ in the value of one more label
abbrev pub at_port_by : ℕ → List ℕ → List (List ℕ × ℕ) → List Sample
at_port_by number label metrics =
    map (λ m. ((codes "port", decimal number) ∷ (label, m.0) ∷ [], m.1)) metrics
