use Rattle.std.proofs.Common.{◌≡◌, List, map, take}
use Rattle.std.specs.Prelude.{All}
use Rattle.ipx_table_dump.specs.declared.client_places.ClientPlace.{ClientPlace}
use Rattle.ipx_table_dump.specs.ClientsText.{IsClientPlace, client_in_words, client_spelled}
use Rattle.ipx_table_dump.proofs.client_words.clients_in.Given as goal

abbrev pub invariant-loop-words : goal.invariant-loop-words
invariant-loop-words l = (cs : List ClientPlace) → All IsClientPlace cs → map client_spelled l.all ≡ map client_in_words cs → l.clients.items ≡ take l.words-index cs
