-- The file that `ipx ipxnet` is short for: one ipxnet port, at which everybody may register. Defined by this
-- project.
use Rattle.std.specs.Prelude.{ℕ, List, ◌++◌, codes}
use Rattle.std.specs.Fmt.{decimal}

-- the text of the file with this UDP port. Its first line tells what players type
abbrev pub ipxnet_file_text : ℕ → List ℕ
ipxnet_file_text port =
    codes "# In DOSBox, players type `ipxnet connect ADDRESS " ++ (decimal port
    ++ (codes "`, with the address of this machine.\n# To change something, put these lines into a file, and run `ipx route FILE`.\n[[port]]\nkind = \"ipxnet\"\nnetwork = \"0000d05b\"\naddress = \"any\"\nudp_port = "
    ++ (decimal port ++ codes "\naccept = \"any\"\n")))
