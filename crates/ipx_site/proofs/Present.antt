-- The clients of ports, each with its number.
use Rattle.std.proofs.Common.{◌≡◌, ◌∙◌, ◌<◌, ◌+◌, ℕ, List, [], ◌∷◌, ◌++◌, ap, append_assoc, append-nil, arith, get_or, length, sym, take}
use Rattle.std.proofs.lemmas.List.{length-take-le, take_more}
use Rattle.ipxnet_server.specs.ServerHears.{ServerView}
use Rattle.ipx_site.specs.ClientLog.{all_clients, port_index_clients}
use Rattle.ipx_site.specs.declared.client_log.PortClient.{PortClient}
use Rattle.ipx_site.specs.declared.router_ports.PortIndex.{PortIndex}

-- the number of one more port's clients follows those of the others
port_after : (n : ℕ) (xs : List PortIndex) (s : PortIndex) (ls : List ServerView) → all_clients n (xs ++ s ∷ []) ls ≡ all_clients n xs ls ++ port_index_clients (length xs + n) s ls
port_after n [] s ls =
    let e : n ≡ 0 + n = omega arith in
    append-nil (port_index_clients n s ls) ∙ ap (λ (k : ℕ). port_index_clients k s ls) e
port_after n (x ∷ xs) s ls =
    let e : length xs + (n + 1) ≡ length (x ∷ xs) + n = omega arith in
    ap (λ (cs : List PortClient). port_index_clients n x ls ++ cs) (port_after (n + 1) xs s ls ∙ ap (λ (k : ℕ). all_clients (n + 1) xs ls ++ port_index_clients k s ls) e)
    ∙ sym (append_assoc (port_index_clients n x ls) (all_clients (n + 1) xs ls) (port_index_clients (length (x ∷ xs) + n) s ls))

pub one_more_port : (port_indices : List PortIndex) (i : ℕ) (d : PortIndex) (ls : List ServerView) (ys zs more : List PortClient) → i < length port_indices
    → ys ≡ all_clients 1 (take i port_indices) ls → more ≡ port_index_clients (i + 1) (get_or port_indices i d) ls → zs ≡ ys ++ more → zs ≡ all_clients 1 (take (i + 1) port_indices) ls
one_more_port port_indices i d ls ys zs more there h k e =
    let s : PortIndex = get_or port_indices i d in
    e ∙ ap (λ (cs : List PortClient). cs ++ more) h ∙ ap (λ (cs : List PortClient). all_clients 1 (take i port_indices) ls ++ cs) k
    ∙ ap (λ (n : ℕ). all_clients 1 (take i port_indices) ls ++ port_index_clients (n + 1) s ls) (sym (length-take-le i port_indices (omega (arith, there))))
    ∙ sym (port_after 1 (take i port_indices) s ls)
    ∙ ap (λ (xs : List PortIndex). all_clients 1 xs ls) (sym (take_more port_indices i d there))
