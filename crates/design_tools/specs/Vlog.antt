-- `icebox_vlog`: writes the module of a database and an image. `-n` and `-p` are options of Project IceStorm's `icebox_vlog` (its usage
-- text).
use Rattle.std.specs.Prelude.{ℕ, Bool, true, false, List, [], ◌∷◌, codes, get_or, Option, None, Some, is_some}
use Rattle.clap.specs.Words.{App, Row, Text, first_of}
use Rattle.ice_image.specs.Configuration.{Configuration}
use Rattle.chipdb_reader.specs.Database.{Database}
use Rattle.asc_text.specs.declared.file.Symbol.{Symbol}
use Rattle.vlog_module.specs.Parts.{Parts}
use Rattle.vlog_forms.specs.Printed.{printed}
use Rattle.fabric_model.specs.declared.options.FabricOptions.{FabricOptions}
use Rattle.fabric_model.specs.declared.lut_inputs.LutInputs.{LutInputs}
use Rattle.fabric_model.specs.declared.lut_inputs.LutInputs.TheVariants as read
use Rattle.fabric_model.specs.Fabric.{Fabric, fabric_with}
use Rattle.fabric_model.specs.Wiring.{clocked_wiring}
use Rattle.fabric_model.specs.Faults.{Fault, design_fault}
use Rattle.fabric_module.specs.Written.{module_of}
use Rattle.tool_run.specs.Needs.{text_of}
use Rattle.wire_names.specs.Lists.{names_text}
use Rattle.symbol_names.specs.Symbols.{symbol_names}
use Rattle.tool_run.specs.Tasks.{Answer, Both, Refused, Task, beside_task, layout_task, usage_error}
use Rattle.tool_inputs.specs.Outcomes.{Manual, outcome}
use Rattle.tool_inputs.specs.Commands.{command, has_flag, long_flag, long_option, positional, short_option}
use Rattle.tool_inputs.specs.DesignInput.{input_answer}
use Rattle.tool_inputs.specs.Images.{image_limit, symbols_read}
use Rattle.tool_inputs.specs.Databases.{database_limit}
use Rattle.design_tools.specs.declared.name.ModuleName.{ModuleName}
use Rattle.design_tools.specs.declared.request.Request.{Request}
use Rattle.design_tools.specs.declared.request.TheConstants.{ICEBOX_VLOG_HELP}
use Rattle.design_tools.specs.Names.{name_given}
use Rattle.design_answers.specs.PinRequests.{Named, pins_in, pins_limit, pins_of_request}
use Rattle.design_answers.specs.Pins.{database_text, pin_fault_text, pin_text, texts_without_pins}
use Rattle.pin_file.specs.declared.fault.PinFileFault.{PinFileFault}
use Rattle.pin_file.specs.declared.pin_name.PinName.{PinName}
use Rattle.pin_file.specs.Faults.{pin_fault_of, ports_of}
use Rattle.pin_file.specs.Packages.{Package, package_of}
use Rattle.port_names.specs.Named.{named_module, port_pins}
use Rattle.design_answers.specs.Order.{write_order}
use Rattle.design_answers.specs.Faults.{design_fault_text}

-- ---- the answer

-- the module that is written for a database and an image under this name: the module of their fabric with these options, in the write
-- order: a topological order of the combinational logic, in which registers that are clocks count
unfoldable pub written_module : FabricOptions → List ℕ → Database → Configuration → Parts
written_module options name db image = module_of (fabric_with options db image) (write_order (clocked_wiring (fabric_with options db image))) name

-- the module that is written if the ports have the names of a pin file
unfoldable pub module_with_names : List PinName → FabricOptions → List ℕ → Database → Configuration → Parts
module_with_names named options name db image =
    named_module named (fabric_with options db image) (write_order (clocked_wiring (fabric_with options db image))) name

-- the symbols of the image, if a list of names is asked for
abbrev pub listed : Bool → List ℕ → Option (List Symbol)
listed false image = None
listed true image = Some (symbols_read image)

-- the list of names for the wires of a module, if it is asked for; `joins` are the routings that are on
abbrev pub list_text : Option (List Symbol) → List (ℕ × ℕ) → Parts → List ℕ
list_text None joins m = []
list_text (Some symbols) joins m = names_text (symbol_names m joins symbols)

-- the text of a module that is written for a fabric, and the list of names for its wires
abbrev pub both_texts : Option (List Symbol) → Fabric → Parts → Answer
both_texts symbols fabric m = Both (printed m) (list_text symbols fabric.joins m)

-- these two texts, or the message for the fault of the design
abbrev pub written_with : FabricOptions → List ℕ → Option (List Symbol) → Database → Configuration → Option Fault → Answer
written_with options name symbols db image None = both_texts symbols (fabric_with options db image) (written_module options name db image)
written_with options name symbols db image (Some fault) = Refused (design_fault_text fault)

abbrev pub written : FabricOptions → List ℕ → Option (List Symbol) → Database → Configuration → Answer
written options name symbols db image = written_with options name symbols db image (design_fault options db image)

-- these two texts for the module whose ports have the names of a pin file, or the message for the fault of the file
abbrev pub named_with : FabricOptions → List ℕ → Option (List Symbol) → List PinName → Database → Configuration → Option PinFileFault → Answer
named_with options name symbols named db image None = both_texts symbols (fabric_with options db image) (module_with_names named options name db image)
named_with options name symbols named db image (Some fault) = Refused (pin_fault_text fault)

-- these two texts for the module whose ports have the names of a pin file for the chosen package. A fault of the design goes before one of the
-- pin file
abbrev pub named_where : FabricOptions → List ℕ → Option (List Symbol) → Package → List ℕ → Database → Configuration → Option Fault → Answer
named_where options name symbols chosen file db image None =
    named_with options name symbols (ports_of chosen (port_pins (fabric_with options db image).pins) file) db image (pin_fault_of chosen file)
named_where options name symbols chosen file db image (Some fault) = Refused (design_fault_text fault)

abbrev pub written_named : FabricOptions → List ℕ → Option (List Symbol) → Package → List ℕ → Database → Configuration → Answer
written_named options name symbols chosen file db image = named_where options name symbols chosen file db image (design_fault options db image)

-- the answer for the layout file, if one is named, and for the texts after it: the pin file, the database, and the image. The flag says
-- whether a list of names is asked for.
abbrev pub named_answer : FabricOptions → Option (List ℕ) → List ℕ → List ℕ → Bool → List (List ℕ) → Answer
named_answer options layout name package_name has_list texts =
    input_answer layout
    (written_named options name (listed has_list (get_or (texts_without_pins texts) 1 [])) (package_of package_name (database_text texts)) (pin_text texts))
    (texts_without_pins texts)

-- the answer without a pin file: for the layout file, if one is named, and for the texts after it: the database, and the image
abbrev pub vlog_answer : FabricOptions → Option (List ℕ) → List ℕ → Bool → List (List ℕ) → Answer
vlog_answer options layout name has_list texts = input_answer layout (written options name (listed has_list (get_or texts 1 []))) texts

-- ---- the arguments

abbrev pub vlog_name : List ℕ
vlog_name = codes "icebox_vlog"

abbrev pub vlog_usage : List ℕ
vlog_usage = codes "icebox_vlog [-n NAME] [-p PCF -d PACKAGE] [--names FILE] [--used-inputs] [--all-pins] [--register-clocks] [--layout FILE] DB [IMAGE]"

abbrev pub vlog_command : App
vlog_command = command vlog_name (short_option (codes "name") 110 ∷ short_option (codes "pins") 112 ∷ short_option (codes "package") 100 ∷ long_option (codes "names") ∷ long_flag (codes "used-inputs") ∷ long_flag (codes "all-pins") ∷ long_flag (codes "register-clocks") ∷ long_option (codes "layout") ∷ positional (codes "db") ∷ positional (codes "image") ∷ [])

-- with `--used-inputs` LUTs read only the inputs that they use, else all
abbrev pub inputs_wanted : Bool → LutInputs
inputs_wanted false = read.All
inputs_wanted true = read.Used

-- with `--all-pins` pins of every kind are taken, and with `--register-clocks` registers may be clocks
abbrev pub options_wanted : Bool → Bool → Bool → FabricOptions
options_wanted used all registers = record { lut_inputs = inputs_wanted used; all_pins = all; register_clocks = registers }

-- ---- the task

-- the task without a pin file: it needs the database, and the image from a file or from standard input. The list of names is stored in its
-- file, if one is named.
abbrev pub write_task : FabricOptions → Text → Option Text → Option Text → Text → Option Text → Task
write_task options name names layout db image =
    beside_task names (layout_task vlog_name layout (record { name = Some db; limit = database_limit } ∷ record { name = image; limit = image_limit } ∷ [])
    None (λ file texts. vlog_answer options file name (is_some names) texts))

-- the task with a pin file: it needs that, and what is needed without it
abbrev pub named_task : FabricOptions → Text → Named → Option Text → Option Text → Text → Option Text → Task
named_task options name pins names layout db image =
    beside_task names (layout_task vlog_name layout
    (record { name = Some pins.file; limit = pins_limit } ∷ record { name = Some db; limit = database_limit } ∷ record { name = image; limit = image_limit } ∷ [])
    None (λ file texts. named_answer options file name pins.package_name (is_some names) texts))

-- the task with a pin file or without
abbrev pub task_with : FabricOptions → Text → Option Named → Option Text → Option Text → Text → Option Text → Task
task_with options name (Some pins) names layout db image = named_task options name pins names layout db image
task_with options name None names layout db image = write_task options name names layout db image

-- the bytes of a name, if there is one
abbrev pub name_text : Option ModuleName → Option Text
name_text None = None
name_text (Some name) = Some name.text.now

-- the name must be one, there must be a database, and no pin file without a package
abbrev pub vlog_task_of : FabricOptions → Option Text → Option (Option Named) → Option Text → Option Text → Option Text → Option Text → Task
vlog_task_of options (Some name) (Some pins) names layout (Some db) image = task_with options name pins names layout db image
vlog_task_of options (Some name) (Some pins) names layout None image = usage_error vlog_name vlog_usage
vlog_task_of options (Some name) None names layout db image = usage_error vlog_name vlog_usage
vlog_task_of options None pins names layout db image = usage_error vlog_name vlog_usage

-- the options that the arguments give
abbrev pub options_in : List Row → FabricOptions
options_in rows = options_wanted (has_flag (codes "used-inputs") rows) (has_flag (codes "all-pins") rows) (has_flag (codes "register-clocks") rows)

abbrev pub vlog_task_by : List Row → Task
vlog_task_by rows =
    vlog_task_of (options_in rows) (name_given (first_of (codes "name") rows)) (pins_in rows) (first_of (codes "names") rows)
    (first_of (codes "layout") rows) (first_of (codes "db") rows) (first_of (codes "image") rows)

-- the tool
abbrev pub icebox_vlog : Manual
icebox_vlog = record { name = vlog_name; usage = vlog_usage; help = ICEBOX_VLOG_HELP.now; app = vlog_command; task = vlog_task_by }

-- what the arguments of `icebox_vlog` ask for, which may be its help
abbrev pub vlog_outcome : List Text → Task
vlog_outcome args = outcome icebox_vlog args

-- the task of the request that was found in the arguments
abbrev pub vlog_task_for : Option Request → Task
vlog_task_for None = usage_error vlog_name vlog_usage
vlog_task_for (Some request) =
    task_with request.options request.name.text.now (pins_of_request request.pins) (text_of request.names) (text_of request.layout) request.db.now (text_of request.image)
