-- What is left behind a node or a type is the file from the place told on, as the trait `Field` asks.
-- Assumes nothing.
use Rattle.fields.specs.Seamless.{Seamless, seamless_number, seamless_choice, seamless_text, seamless_then, seamless_mapped, seamless_counted, seamless_optional}
use Rattle.catalog.specs.Catalog.{kind, aoi, node_fields, node, type_fields, type_def}

-- behind the byte for a kind
seamless_kind : Seamless kind
seamless_kind = seamless_mapped _ _ _ (seamless_choice 2)

-- behind the byte for an Add-On Instruction
seamless_aoi : Seamless aoi
seamless_aoi = seamless_mapped _ _ _ (seamless_choice 2)

-- behind the fields of a node
seamless_node_fields : Seamless node_fields
seamless_node_fields =
    seamless_then _ _ (seamless_text 128) (seamless_then _ _ (seamless_text 128) (seamless_then _ _ seamless_kind (seamless_then _ _ (seamless_counted _ (seamless_number 4 1000000) 1 3)
    (seamless_then _ _ (seamless_optional _ (seamless_number 4 4294967295)) (seamless_optional _ (seamless_number 2 65535))))))

-- behind a node
pub seamless_node : Seamless node
unfolding node
seamless_node = seamless_mapped _ _ _ seamless_node_fields

-- behind the fields of a type
seamless_type_fields : Seamless type_fields
seamless_type_fields =
    seamless_then _ _ (seamless_text 128) (seamless_then _ _ (seamless_number 2 65535) (seamless_then _ _ seamless_aoi (seamless_counted _ seamless_node 2 256)))

-- behind a type
pub seamless_type : Seamless type_def
unfolding type_def
seamless_type = seamless_mapped _ _ _ seamless_type_fields
